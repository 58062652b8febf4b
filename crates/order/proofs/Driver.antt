-- A run of calls does what the permitted order of its taken calls does. Assumes nothing.
use mathlib.Core.Path.{◌≡◌, refl, sym, ap, ap₂, subst, ◌∙◌}
use mathlib.Core.Logic.{inl, inr}
use mathlib.Core.List.{List, [], ◌∷◌, ◌++◌, map, head-eq_of_cons-eq, tail-eq_of_cons-eq}
use Prim.Native.Nat.{ℕ, zero, suc, ◌+◌, ◌<◌, ◌≤◌, min}
use native.Mathlib.Omega.{arith}
use lib.ListN.{length, set, replicate, length-set, length-replicate}
use Rattle.laws.specs.Answer.{written}
use Rattle.laws.specs.Steps.{up_to}
use Rattle.order.specs.Lists.{Names}
use Rattle.order.specs.Order.{Alike, Laws, Done, AllDone, Ready, First, build, marked, Permitted, undone_from, raster, ones}
use Rattle.order.specs.Driver.{Driver, View, Started, Fair, after, play, answers, taken_by, Carries, Spares, Offers}
use Rattle.order.proofs.Settled.{done_still, untouched, ok_run}
use Rattle.order.proofs.Count.{ones_set, ones_le, ones_none, full_done}
use Rattle.order.proofs.Orders.{permitted_undone}
use Rattle.order.proofs.Raster.{raster_permitted, length_raster}
use Rattle.order.proofs.Undone.{undone_fills}
use Rattle.order.proofs.AnyOrder.{done_agrees, any_order}

-- runs joined
pub play_append : {S C : Type 0} (D : Driver S C) (cs ds : List C) (s : S) → play D (cs ++ ds) s ≡ play D ds (play D cs s)
play_append D [] ds s = refl
play_append D (c ∷ cs) ds s = play_append D cs ds (after D c s)

module _ {S C M : Type 0} {D : Driver S C} {U : View S M} {n : ℕ} {addr : C → ℕ} {waits : C → ℕ → Type 0} (F : Fair D U n addr waits) where
  -- the state after a call, by its answer
  pub after_is : (c : C) (s : S) {r : ℕ} → D.answer c s ≡ r → after D c s ≡ written r s (D.taken c s)
  after_is c s e = ap (λ r. written r s (D.taken c s)) e

  pub done_after_lem : (c : C) (s : S) → D.answer c s ≡ 0 → U.done (after D c s) ≡ set (U.done s) (addr c) 1
  done_after_lem c s e = ap U.done (after_is c s e) ∙ F.marks c s

  -- the map keeps its length
  pub long_after : (c : C) (s : S) → length (U.done s) ≡ n → length (U.done (after D c s)) ≡ n
  long_after c s l = go (D.answer c s) refl
    where
      go : (r : ℕ) → D.answer c s ≡ r → length (U.done (after D c s)) ≡ n
      go zero e = ap length (done_after_lem c s e) ∙ length-set (U.done s) (addr c) 1 ∙ l
      go (suc r) e = ap (λ u. length (U.done u)) (after_is c s e) ∙ l

  -- what is done stays done
  pub done_kept : (cs : List C) (s : S) (a : ℕ) → length (U.done s) ≡ n → Done (U.done s) a → Done (U.done (play D cs s)) a
  done_kept [] s a l d = d
  done_kept (c ∷ cs) s a l d = done_kept cs (after D c s) a (long_after c s l) (go (D.answer c s) refl)
    where
      go : (r : ℕ) → D.answer c s ≡ r → Done (U.done (after D c s)) a
      go zero e = subst (λ m. Done m a) (sym (done_after_lem c s e)) (done_still (U.done s) (addr c) a (rw l (F.takes c s e l).0) d)
      go (suc r) e = subst (λ u. Done (U.done u) a) (sym (after_is c s e)) d

  -- the steps that a run takes, by the first call's answer
  taken_first : (c : C) (cs : List C) (s : S) {r : ℕ} → D.answer c s ≡ r
      → taken_by D addr (c ∷ cs) s ≡ written r (taken_by D addr cs (after D c s)) (addr c ∷ taken_by D addr cs (after D c s))
  taken_first c cs s e = ap (λ r. written r (taken_by D addr cs (after D c s)) (addr c ∷ taken_by D addr cs (after D c s))) e

  module _ (step : ℕ → M → M) (N : ℕ → ℕ → Type 0) where
    -- a run does what the steps that it takes do, and their order is permitted
    pub record Ran (cs : List C) (s : S) : Type 0 where
      pub permitted : Permitted n N (taken_by D addr cs s) (U.done s)
      pub memory : U.memory (play D cs s) ≡ build step (taken_by D addr cs s) (U.memory s)
      pub done : U.done (play D cs s) ≡ marked (taken_by D addr cs s) (U.done s)

    pub ran : (cs : List C) (s : S) → length (U.done s) ≡ n → Carries D U n addr waits step N cs s → Ran cs s
    ran [] s l k = record { permitted = tt; memory = refl; done = refl }
    ran (c ∷ cs) s l k = go (D.answer c s) refl (ran cs (after D c s) (long_after c s l) k.1)
      where
        rest : List ℕ
        rest = taken_by D addr cs (after D c s)

        go : (r : ℕ) → D.answer c s ≡ r → Ran cs (after D c s) → Ran (c ∷ cs) s
        go zero e t = record {
          permitted = subst (λ o. Permitted n N o (U.done s)) (sym more)
              (f.0, f.1, (λ b w. f.2 b ((k.0 e).awaits b w)), subst (Permitted n N rest) (done_after_lem c s e) t.permitted);
          memory = t.memory ∙ ap (λ u. build step rest (U.memory u)) (after_is c s e) ∙ ap (build step rest) (k.0 e).does
              ∙ ap (λ o. build step o (U.memory s)) (sym more);
          done = t.done ∙ ap (marked rest) (done_after_lem c s e) ∙ ap (λ o. marked o (U.done s)) (sym more);
        }
          where
            more : taken_by D addr (c ∷ cs) s ≡ addr c ∷ rest
            more = taken_first c cs s e

            f : (addr c < n) × (¬ Done (U.done s) (addr c)) × ((b : ℕ) → waits c b → Done (U.done s) b)
            f = F.takes c s e l
        go (suc r) e t = record {
          permitted = subst (λ o. Permitted n N o (U.done s)) (sym same) (subst (λ u. Permitted n N rest (U.done u)) (after_is c s e) t.permitted);
          memory = t.memory ∙ ap (λ u. build step rest (U.memory u)) (after_is c s e) ∙ ap (λ o. build step o (U.memory s)) (sym same);
          done = t.done ∙ ap (λ u. marked rest (U.done u)) (after_is c s e) ∙ ap (λ o. marked o (U.done s)) (sym same);
        }
          where
            same : taken_by D addr (c ∷ cs) s ≡ rest
            same = taken_first c cs s e

  -- calls for given steps that are all taken
  pub taken_all : (offer : ℕ → C) → ((a : ℕ) → addr (offer a) ≡ a) → (o : List ℕ) (s : S) → answers D (map offer o) s ≡ replicate (length o) 0
      → taken_by D addr (map offer o) s ≡ o
  taken_all offer is [] s e = refl
  taken_all offer is (a ∷ o) s e =
      taken_first (offer a) (map offer o) s (head-eq_of_cons-eq e) ∙ ap₂ (λ b l. b ∷ l) (is a) (taken_all offer is o (after D (offer a) s) (tail-eq_of_cons-eq e))

  -- their order is permitted, whatever they leave of the memory
  pub taken_permitted : (offer : ℕ → C) → ((a : ℕ) → addr (offer a) ≡ a) → (o : List ℕ) (s : S) → length (U.done s) ≡ n
      → answers D (map offer o) s ≡ replicate (length o) 0
      → Permitted n (λ a b. waits (offer a) b) o (U.done s) × (U.done (play D (map offer o) s) ≡ marked o (U.done s))
  taken_permitted offer is [] s l e = (tt, refl)
  taken_permitted offer is (a ∷ o) s l e =
      let z = head-eq_of_cons-eq e in
      let t = F.takes (offer a) s z l in
      let m = done_after_lem (offer a) s z ∙ ap (λ b. set (U.done s) b 1) (is a) in
      let more = taken_permitted offer is o (after D (offer a) s) (long_after (offer a) s l) (tail-eq_of_cons-eq e) in
      ((subst (λ b. b < n) (is a) t.0, subst (λ b. ¬ Done (U.done s) b) (is a) t.1, t.2, subst (Permitted n (λ a b. waits (offer a) b) o) m more.0), more.1 ∙ ap (marked o) m)

  -- a run that takes as many as it has calls meets no refusal
  taken_short : (cs : List C) (s : S) → length (taken_by D addr cs s) ≤ length cs
  taken_short [] s = omega arith
  taken_short (c ∷ cs) s = go (D.answer c s) refl (taken_short cs (after D c s))
    where
      go : (r : ℕ) → D.answer c s ≡ r → length (taken_by D addr cs (after D c s)) ≤ length cs → length (taken_by D addr (c ∷ cs) s) ≤ suc (length cs)
      go zero e h = omega (arith, ap length (taken_first c cs s e))
      go (suc r) e h = omega (arith, ap length (taken_first c cs s e))

  pub none_refused : (cs : List C) (s : S) → length cs ≤ length (taken_by D addr cs s) → answers D cs s ≡ replicate (length cs) 0
  none_refused [] s h = refl
  none_refused (c ∷ cs) s h = go (D.answer c s) refl (none_refused cs (after D c s))
    where
      go : (r : ℕ) → D.answer c s ≡ r → (length cs ≤ length (taken_by D addr cs (after D c s)) → answers D cs (after D c s) ≡ replicate (length cs) 0)
          → D.answer c s ∷ answers D cs (after D c s) ≡ replicate (suc (length cs)) 0
      go zero e ih = ap₂ (λ x xs. x ∷ xs) e (ih (omega (arith, ap length (taken_first c cs s e))))
      go (suc r) e ih = absurd (omega (arith, ap length (taken_first c cs s e), taken_short cs (after D c s)))

  -- it counts them, up to n
  pub taken_count : (cs : List C) (s : S) → length (U.done s) ≡ n → U.count s ≤ n → U.count (play D cs s) ≡ min (U.count s + length (taken_by D addr cs s)) n
  taken_count [] s l few = omega arith
  taken_count (c ∷ cs) s l few = go (D.answer c s) refl (taken_count cs (after D c s) (long_after c s l))
    where
      rest : List ℕ
      rest = taken_by D addr cs (after D c s)

      go : (r : ℕ) → D.answer c s ≡ r → (U.count (after D c s) ≤ n → U.count (play D cs (after D c s)) ≡ min (U.count (after D c s) + length rest) n)
          → U.count (play D cs (after D c s)) ≡ min (U.count s + length (taken_by D addr (c ∷ cs) s)) n
      go zero e ih =
          let one : U.count (after D c s) ≡ min (U.count s + 1) n = ap U.count (after_is c s e) ∙ F.counts c s e l in
          omega (arith, one, ih (omega (arith, one)), ap length (taken_first c cs s e))
      go (suc r) e ih =
          let none = ap U.count (after_is c s e) in
          omega (arith, none, ih (omega (arith, none)), ap length (taken_first c cs s e))

  -- the count equals the ones of the map, whatever the calls
  pub record Counted (s : S) : Type 0 where
    pub long : length (U.done s) ≡ n
    pub right : U.count s ≡ ones (U.done s)

  pub counted_after : (c : C) (s : S) → Counted s → Counted (after D c s)
  counted_after c s k = go (D.answer c s) refl
    where
      go : (r : ℕ) → D.answer c s ≡ r → Counted (after D c s)
      go zero e = record { long = long_after c s k.long; right = ap U.count (after_is c s e) ∙ right' ∙ ap ones (sym (done_after_lem c s e)) }
        where
          t : (addr c < n) × (¬ Done (U.done s) (addr c)) × ((b : ℕ) → waits c b → Done (U.done s) b)
          t = F.takes c s e k.long

          more : ones (set (U.done s) (addr c) 1) ≡ suc (ones (U.done s))
          more = ones_set (U.done s) (addr c) (rw k.long t.0) t.1

          right' : U.count (D.taken c s) ≡ ones (set (U.done s) (addr c) 1)
          right' =
              F.counts c s e k.long
              ∙ omega (arith, more, k.right, k.long, ones_le (set (U.done s) (addr c) 1), length-set (U.done s) (addr c) 1)
      go (suc r) e = subst Counted (sym (after_is c s e)) k

  counted_run : (cs : List C) (s : S) → Counted s → Counted (play D cs s)
  counted_run [] s k = k
  counted_run (c ∷ cs) s k = counted_run cs (after D c s) (counted_after c s k)

  long_start : {s : S} → Started D U n addr s → length (U.done s) ≡ n
  long_start st = ap length st.empty ∙ length-replicate n 0

  counted_start : {s : S} → Started D U n addr s → Counted s
  counted_start st = record { long = long_start st; right = st.none ∙ sym (ones_none n) ∙ ap ones (sym st.empty) }

  pub counted_long : (cs : List C) {s : S} → Started D U n addr s → length (U.done (play D cs s)) ≡ n
  counted_long cs {s} st = (counted_run cs s (counted_start st)).long

  pub counted : (cs : List C) {s : S} → Started D U n addr s → U.count (play D cs s) ≡ ones (U.done (play D cs s))
  counted cs {s} st = (counted_run cs s (counted_start st)).right

  -- a count of n says that all is done
  pub count_full : (cs : List C) {s : S} → Started D U n addr s → U.count (play D cs s) ≡ n → AllDone n (U.done (play D cs s))
  count_full cs {s} st e a h = full_done (U.done (play D cs s)) (sym k.right ∙ e ∙ sym k.long) a (omega (arith, k.long))
    where
      k : Counted (play D cs s)
      k = counted_run cs s (counted_start st)

  -- any calls in any order, with refused ones between
  module _ {I X : Type 0} {N : ℕ → ℕ → Type 0} {at : M → I → X} {ok : M → Type 0} {R : ℕ → I → Type 0} {step : ℕ → M → M} (L : Laws at ok n R N step) where
    module _ (cs : List C) (s : S) (st : Started D U n addr s) (kp : ok (U.memory s)) (k : Carries D U n addr waits step N cs s) where
      t : Ran step N cs s
      t = ran step N cs s (long_start st) k

      allowed : Permitted n N (taken_by D addr cs s) (replicate n 0)
      allowed = subst (Permitted n N (taken_by D addr cs s)) st.empty t.permitted

      ends : U.done (play D cs s) ≡ marked (taken_by D addr cs s) (replicate n 0)
      ends = t.done ∙ ap (marked (taken_by D addr cs s)) st.empty

      -- a step that is done holds what the order 0, 1, .. gives, whatever the two memories held before
      pub done_is_raster : (q : M) → ok q → (a : ℕ) → a < n → Done (U.done (play D cs s)) a → Alike at (R a) (U.memory (play D cs s)) (up_to step n q)
      done_is_raster q kq a ha dn i r = ap (λ m. at m i) t.memory ∙ done_agrees L (taken_by D addr cs s) (U.memory s) q kp kq allowed a ha (subst (λ d. Done d a) ends dn) i r

      -- a place in no region keeps what it held
      pub padding_kept : (i : I) → ((a : ℕ) → a < n → ¬ R a i) → at (U.memory (play D cs s)) i ≡ at (U.memory s) i
      padding_kept i h = ap (λ m. at m i) t.memory ∙ untouched L (taken_by D addr cs s) (U.memory s) (replicate n 0) kp allowed i h

      -- when all is done, every place holds what the order 0, 1, .. gives, those in no region too
      pub whole_is_raster : ((i : I) → Dec ((a : ℕ) × (a < n) × R a i)) → AllDone n (U.done (play D cs s)) → (i : I) → at (U.memory (play D cs s)) i ≡ at (up_to step n (U.memory s)) i
      whole_is_raster tell all i = ap (λ m. at m i) t.memory ∙ any_order L tell (taken_by D addr cs s) (U.memory s) kp allowed (λ a h. subst (λ d. Done d a) ends (all a h)) i

      pub ok_kept : ok (U.memory (play D cs s))
      ok_kept = subst ok (sym t.memory) (ok_run L (taken_by D addr cs s) (U.memory s) (replicate n 0) kp allowed)

  -- ---- never stuck: whatever calls came before, a call with all that it needs is taken
  module _ {ok : M → Type 0} (K : Spares D U n addr ok) where
    -- what every call keeps: memory that can be worked on, a map of n bytes, and a count of at most n
    pub record Sound (s : S) : Type 0 where
      pub good : ok (U.memory s)
      pub long : length (U.done s) ≡ n
      pub few : U.count s ≤ n

    sound_after : (c : C) (s : S) → Sound s → Sound (after D c s)
    sound_after c s k = record { good = good (D.answer c s) refl; long = long_after c s k.long; few = few (D.answer c s) refl }
      where
        good : (r : ℕ) → D.answer c s ≡ r → ok (U.memory (after D c s))
        good zero e = subst (λ u. ok (U.memory u)) (sym (after_is c s e)) (K.spares c s e k.good)
        good (suc r) e = subst (λ u. ok (U.memory u)) (sym (after_is c s e)) k.good

        few : (r : ℕ) → D.answer c s ≡ r → U.count (after D c s) ≤ n
        few zero e = omega (arith, ap U.count (after_is c s e), F.counts c s e k.long)
        few (suc r) e = omega (arith, ap U.count (after_is c s e), k.few)

    pub sound_play : (cs : List C) (s : S) → Sound s → Sound (play D cs s)
    sound_play [] s k = k
    sound_play (c ∷ cs) s k = sound_play cs (after D c s) (sound_after c s k)

    pub sound_run : (cs : List C) {s : S} → Started D U n addr s → ok (U.memory s) → Sound (play D cs s)
    sound_run cs {s} st k = sound_play cs s (record { good = k; long = long_start st; few = omega (arith, st.none) })

    pub taken_now : {N : ℕ → ℕ → Type 0} {a : ℕ} {c : C} (s : S) → Sound s → Offers D U n addr N ok a c → ¬ Done (U.done s) a → Ready N (U.done s) a → D.answer c s ≡ 0
    taken_now s k o = o.accepted s k.good k.long k.few

    module _ {N : ℕ → ℕ → Type 0} (earlier : (a b : ℕ) → a < n → N a b → b < a) where
      -- the first undone step is ready
      pub first_taken : {a : ℕ} {c : C} (s : S) → Sound s → Offers D U n addr N ok a c → First n (U.done s) a → D.answer c s ≡ 0
      first_taken {a} s k o f = taken_now s k o f.undone (λ b w. f.below b (earlier a b f.inside w))

      module _ (offer : ℕ → C) where
        -- a permitted order, each step offered by a call with all that it needs, meets no refusal
        abbrev pub Taken : List ℕ → S → Type 0
        Taken o s = (answers D (map offer o) s ≡ replicate (length o) 0) × (U.done (play D (map offer o) s) ≡ marked o (U.done s))

        pub order_taken : (o : List ℕ) (s : S) → Sound s → ((a : ℕ) → Names o a → Offers D U n addr N ok a (offer a)) → Permitted n N o (U.done s) → Taken o s
        order_taken [] s k A t = (refl, refl)
        order_taken (a ∷ o) s k A t =
            let given = A a (inl refl) in
            let e = taken_now s k given t.1 t.2 in
            let m = done_after_lem (offer a) s e ∙ ap (λ b. set (U.done s) b 1) given.at_step in
            let more = order_taken o (after D (offer a) s) (sound_after (offer a) s k) (λ b h. A b (inr h)) (subst (Permitted n N o) (sym m) t.3) in
            (ap₂ (λ x xs. x ∷ xs) e more.0, more.1 ∙ ap (marked o) m)

        -- the steps that a state leaves undone, each offered by such a call
        abbrev pub Offered : S → Type 0
        Offered s = (a : ℕ) → a < n → ¬ Done (U.done s) a → Offers D U n addr N ok a (offer a)

        pub permitted_taken : (o : List ℕ) (s : S) → Sound s → Offered s → Permitted n N o (U.done s) → Taken o s
        permitted_taken o s k A t = order_taken o s k (λ a m. let p = permitted_undone n N o (U.done s) k.long t a m in A a p.0 p.1) t

        -- so what is undone, by address, meets none, and then all is done
        pub rest_taken : (s : S) → Sound s → Offered s → Taken (undone_from 0 (U.done s)) s
        rest_taken s k A = permitted_taken (undone_from 0 (U.done s)) s k A (undone_fills n N earlier (U.done s) k.long).0

        pub rest_full : (s : S) → Sound s → Offered s → AllDone n (U.done (play D (map offer (undone_from 0 (U.done s))) s))
        rest_full s k A a h = subst (λ d. Done d a) (sym (rest_taken s k A).1) ((undone_fills n N earlier (U.done s) k.long).1 a h)

        -- from the start, that is the raster order
        pub raster_taken : {s : S} → Started D U n addr s → ok (U.memory s) → Offered s → answers D (map offer (raster n)) s ≡ replicate n 0
        raster_taken {s} st k A =
            (permitted_taken (raster n) s (sound_run [] st k) A (subst (Permitted n N (raster n)) (sym st.empty) (raster_permitted n N earlier))).0
            ∙ ap (λ x. replicate x 0) (length_raster n)

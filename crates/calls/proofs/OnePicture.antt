-- One picture and what is lent for it: its driver is fair and spares the planes, its macroblocks are local, and an acceptable record is accepted once its
-- macroblock is undone and ready. Assumes nothing.
use mathlib.Core.Path.{◌≡◌, refl, sym, ap, subst, ◌∙◌}
use mathlib.Core.Bool.{true}
use mathlib.Core.List.{List, [], ◌∷◌}
use Prim.Native.Nat.{ℕ, ◌+◌, ◌/◌, ◌%◌, ◌<◌, min}
use native.Mathlib.Nat.{div-add-mod'}
use lib.ListN.{length, replicate}
use Rattle.laws.proofs.Answers.{put, passes_by}
use Rattle.laws.proofs.Tests.{T_true}
use Rattle.order.specs.Order.{Laws, Done}
use Rattle.order.specs.Driver.{View, Started, Fair, Spares, Offers, after, Carries}
use Rattle.maps.specs.Progress.{begun}
use Rattle.maps.specs.Neighbours.{Side, beside_x, beside_y, beside, Adjoins}
use Rattle.maps.specs.Size.{Size, Stands}
use Rattle.maps.proofs.Beside.{Neighbour, available_at}
use Rattle.maps.proofs.Sizes.{start_is, address_inside, place_of}
use Rattle.maps.proofs.Waiting.{undone_is, undone_yes, settled_is, settled_yes}
use Rattle.macroblock.specs.Local.{Local}
use Rattle.macroblock.specs.Rules.{lists_good, permitted}
use Rattle.calls.specs.Planes.{Plane, side}
use Rattle.calls.specs.Rebuild.{Call, Lent, here, marks, waits_for, record_rules, Acceptable, answer_to, square_in}
use Rattle.calls.specs.Run.{Picture, total_of, offer, Waits, Awaits, Lends, Planes, Location, sample_at, Region, InPicture, driver, started, Own}
use Rattle.calls.proofs.Available.{waits_available}
use Rattle.calls.proofs.Lending.{PlaneRoom, plane_is}
use Rattle.calls.proofs.Regions.{apart, tell, at_address}
use Rattle.calls.proofs.Rules.{Passed, passed_is, passed_yes, passed_0, first_0, permitted_0, ready_0, by_record}
use Rattle.calls.proofs.Squares.{depends_on, depends_marked, square_local, square_depends}

-- ---- the driver
abbrev pub view : View Lent Planes
view = record { memory = λ s. s.planes; done = λ s. s.done; count = λ s. s.progress.count }

pub accepted_passed : (c : Call) (s : Lent) → answer_to c s ≡ 0 → Passed c s
accepted_passed c s e = passed_is c s (first_0 c s (passed_0 c s e))

pub fair : (n : ℕ) → Fair driver view n here Waits
fair n = record {
  takes = λ c s e l.
      let g = accepted_passed c s e in
      (subst (λ m. here c < m) (sym g.room.done_long ∙ l) (address_inside c.width c.height c.x c.y g.place), undone_is s.done (here c) g.undone, λ b (k, t, is). subst (Done s.done) is (settled_is c.width c.x c.y (waits_for c) s.done (ready_0 c s e) k t));
  marks = λ c s. refl;
  counts = λ c s e l. ap (min (s.progress.count + 1)) (sym (accepted_passed c s e).room.done_long ∙ l);
}

-- an accepted call keeps the planes' lengths, whatever it was given
pub spares : (n : ℕ) (bytes : Plane → ℕ) → Spares driver view n here (λ planes. (p : Plane) → length (planes p) ≡ bytes p)
spares n bytes = record {
  spares = λ c s e k p.
      let g = accepted_passed c s e in
      (square_local c (λ q. length (s.planes q)) g.room.planes g.place p).keeps (s.planes p) ∙ k p;
}

-- ---- what a call depends on: with a permitted record, what it waits for
abbrev pub DependsOn : Call → ℕ → Type 0
DependsOn c b = (k : Side) × (depends_on c k ≡ true) × (beside c.width c.x c.y k ≡ b)

depends_waits : (c : Call) (b : ℕ) → permitted (marks c) c.mb ≡ true → DependsOn c b → Waits c b
depends_waits c b ok (k, t, is) = (k, sym (rw ok) ∙ t, is)

-- ---- a picture
module _ (g : Picture) where
  abbrev pub Depends : ℕ → ℕ → Type 0
  Depends a b = DependsOn (offer g a) b

  abbrev pub step : ℕ → Planes → Planes
  step a now p = square_in (offer g a) p (now p)

  -- macroblock a stands at address a
  pub offer_here : (a : ℕ) → here (offer g a) ≡ a
  offer_here a = div-add-mod' a g.width

  -- what it waits for is an available neighbour
  pub awaits_adjoins : (a b : ℕ) → Awaits g a b → Adjoins g.width g.slices a b
  awaits_adjoins a b (k, t, is) = (k, waits_available (offer g a) k t, is)

  pub carries : (cs : List Call) (s : Lent) → Own g cs s → Carries driver view (total_of g) here Waits step Depends cs s
  carries [] s o = tt
  carries (c ∷ cs) s o = (
    (λ e. record {
      does = ap (λ d p. square_in d p (s.planes p)) (o.0 e);
      awaits = λ b w. depends_waits c b (permitted_0 c s (passed_0 c s e)) (subst (λ d. DependsOn d b) (sym (o.0 e)) w);
    }),
    carries cs (after driver c s) o.1,
  )

  module _ (s : Lent) (lends : Lends g s) where
    abbrev pub bytes : Plane → ℕ
    bytes p = length (s.planes p)

    -- planes of those lengths
    abbrev pub Good : Planes → Type 0
    Good planes = (p : Plane) → length (planes p) ≡ bytes p

    pub sized : Size g.width g.height × (length s.done ≡ total_of g)
    sized = start_is g.width g.height (length s.done) lends.starts

    -- starting clears the map and the count
    pub begun_at : started g s ≡ record { planes = s.planes; done = replicate (length s.done) 0; progress = begun }
    begun_at = put s (record { planes = s.planes; done = replicate (length s.done) 0; progress = begun }) lends.starts

    pub begins : Started driver view (total_of g) here (started g s)
    begins = record { empty = ap (λ t. t.done) begun_at ∙ ap (λ n. replicate n 0) sized.1; none = ap (λ t. t.progress.count) begun_at }

    pub planes_kept : (started g s).planes ≡ s.planes
    planes_kept = ap (λ t. t.planes) begun_at

    pub fits : (p : Plane) → PlaneRoom (side p) g.width g.height (g.stride p) (bytes p)
    fits p = plane_is (side p) g.width g.height (g.stride p) (bytes p) (lends.planes p)

    pub place : (a : ℕ) → a < total_of g → Stands g.width g.height (a % g.width) (a / g.width)
    place a h = place_of g.width g.height a sized.0.some_w h

    pub local : (a : ℕ) → a < total_of g → (p : Plane) → Local (bytes p) (side p) (g.stride p) (a % g.width) (a / g.width) (depends_on (offer g a)) (square_in (offer g a) p)
    local a h p = square_depends (offer g a) bytes fits (place a h) p

    pub stands : (a : ℕ) → a < total_of g → (k : Side) → marks (offer g a) k ≡ true → Neighbour g.width (a % g.width) (a / g.width) k
    stands a h k t = available_at g.width (a % g.width) (a / g.width) g.slices k (place a h).in_w t

    smaller : (a b : ℕ) → a < total_of g → (k : Side) → marks (offer g a) k ≡ true → beside g.width (a % g.width) (a / g.width) k ≡ b → b < a
    smaller a b h k t is = subst (λ n. b < n) (offer_here a) (subst (λ m. m < here (offer g a)) is (stands a h k t).before)

    pub awaits_smaller : (a b : ℕ) → a < total_of g → Awaits g a b → b < a
    awaits_smaller a b h (k, t, is) = smaller a b h k (waits_available (offer g a) k t) is

    pub laws : Laws sample_at Good (total_of g) (Region g) Depends step
    laws = record {
      apart = λ a b (p, i) ha hb t u. apart (side p) (g.stride p) g.width a b i t u;
      earlier = λ a b h (k, t, is). smaller a b h k (depends_marked (offer g a) k t) is;
      keeps = λ a now h k p. (local a h p).keeps (now p) ∙ k p;
      writes = λ a now (p, i) h k out. (local a h p).writes (now p) i (k p) out;
      reads = λ a now then h k k' e (p, i) t.
          (local a h p).reads (now p) (then p) (k p) (k' p)
          (λ d v j u.
          let w = T_true (depends_on (offer g a) d) v in
          let o = stands a h d (depends_marked (offer g a) d w) in
          e (beside g.width (a % g.width) (a / g.width) d) (d, w, refl) (p, j)
          (at_address (side p) (g.stride p) g.width (beside_x (a % g.width) d) (beside_y (a / g.width) d) j o.column u)) i t;
    }

    pub told : (i : Location) → Dec (InPicture g i)
    told (p, i) = tell (side p) (g.stride p) g.width g.height sized.0.some_w i

    -- an acceptable record, once its macroblock is undone and ready
    pub acceptable : (a : ℕ) → a < total_of g → Acceptable (offer g a) → Offers driver view (total_of g) here (Awaits g) Good a (offer g a)
    unfolding record_rules
    acceptable a h ok = record {
      at_step = offer_here a;
      accepted = λ t k long few undone rdy.
          let c = offer g a in
          by_record c t (passed_yes c t (record {
            size = sized.0;
            room = record { planes = λ p. subst (PlaneRoom (side p) g.width g.height (g.stride p)) (sym (k p)) (fits p); done_long = long; slices_long = lends.slices; few = few };
            lists = (passes_by 1 (lists_good c.mb) _ ok).0;
            place = place a h;
            undone = undone_yes t.done (here c) (λ d. undone (subst (Done t.done) (offer_here a) d));
          }))
          (settled_yes c.width c.x c.y (waits_for c) t.done (λ d w. rdy (beside g.width (a % g.width) (a / g.width) d) (d, w, refl))) ∙ ok;
    }

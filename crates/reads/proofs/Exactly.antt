-- The sets of groups that are read are exact, once for every predictor of which the tables hold and that minds no sample of an absent group. Assumes nothing.
use mathlib.Core.Path.{◌≡◌, refl, sym, ap, ◌∙◌}
use mathlib.Core.Bool.{Bool, true, false, cond, not, ◌&&◌, ◌||◌}
use mathlib.Core.List.{[]}
use Prim.Native.Nat.{ℕ, ◌*◌, ◌-◌, ◌≤◌, ◌<◌}
use native.Mathlib.Decide.{dec_lt}
use native.Mathlib.Omega.{arith}
use borrow.Author.Tests.{eqb-false, ne_eqb, leb-true, leb-false, not-true}
use lib.Dec.{eqb, leb, lit≤}
use Rattle.laws.specs.Table.{all_below, table}
use Rattle.laws.proofs.Tables.{table_at}
use Rattle.laws.proofs.Tests.{and_left, and_right, implied, choose, cond_same, not_both, all_fails}
use Rattle.basics.specs.Marks.{permitted_nxn, permitted16x16, permitted_chroma}
use Rattle.basics.specs.Near.{Near, Agree}
use Rattle.intra_nxn.proofs.LumaPromise.{promise_4x4, promise_8x8}
use Rattle.samples.proofs.WholePromise.{whole_promise}
use Rattle.reads.specs.Groups.{Group, Samples, group_size, near_by, named_nxn, named16x16, named_chroma}
use Rattle.reads.specs.Groups.Group.{above, left, corner, above_right}
use Rattle.reads.specs.Exactly.{Predictor, luma4x4, luma8x8, luma16x16, chroma8x8, permits, predicted, SameIn, Minds, Exactly}
use Rattle.reads.proofs.Computed.{block, Alone, Kept, dark, lit, same, shows, Shown, alone_4x4, alone_8x8, alone_16x16, alone_chroma, kept_4x4, kept_8x8, kept_16x16, kept_chroma, shown_4x4, shown_8x8, shown_16x16, shown_chroma}
use Rattle.reads.proofs.Refused.{none_8x8}
use Rattle.reads.proofs.Tables.{by_group, at_mode, at_group, number, another}

-- ---- samples that are the same in the groups of a set make neighbourhoods that agree where just these are marked
near_agree : (n wide : ℕ) → wide ≤ 2 * n → (R : (Group → Bool)) (s t : Samples) → ((g : Group) → R g ≡ true → (i : ℕ) → i < group_size n g → s g i ≡ t g i)
    → Agree wide n (R above) (R left) (R corner) (near_by n (R above_right) s) (near_by n (R above_right) t)
unfolding near_by
near_agree n wide h R s t e =
    record {
      on_above = λ ha i low high. rw (ne_eqb i 0 (omega arith))
          (cond_same (leb i n) _ _ _ _ (λ b. e above ha (i - 1) (omega (arith, leb-true i n b)))
          (λ b. cond_same (R above_right) _ _ _ _ (λ hr. e above_right hr (i - n - 1) (omega (arith, leb-false i n b))) (λ _. e above ha (n - 1) (omega arith))));
      on_left = λ hl j low high. rw (ne_eqb j 0 (omega arith)) (e left hl (j - 1) (omega arith));
      on_corner = λ hc. e corner hc 0 (omega arith);
    }

-- the samples of an absent group are not read
abbrev pub Unread : Predictor → ℕ → Type 0
Unread P wide =
    (m : ℕ) (a l c : Bool) (p q : Near) → P.permitted a l c m ≡ true → Agree wide P.side a l c p q
    → (x y : ℕ) → x < P.side → y < P.side → P.pred m a l c p x y ≡ P.pred m a l c q x y

module _ (P : Predictor) (modes wide : ℕ) (narrow : wide ≤ 2 * P.side)
    (few : (a l c : Bool) (m : ℕ) → P.permitted a l c m ≡ true → m < modes)
    (none : (marks : (Group → Bool)) (m : ℕ) (k : Group) → permits P marks m ≡ false → P.reads marks m k ≡ false)
    (unread : Unread P wide) (alone : Alone P modes) (kept : Kept P modes) (shown : Shown P modes) where
  module _ (marks : (Group → Bool)) (m : ℕ) where
    module _ (ok : permits P marks m ≡ true) where
      low : m < modes
      low = few (marks above) (marks left) (marks corner) m ok

      alone_at : (s : Samples) (x y : ℕ) → x < P.side → y < P.side → predicted P marks m s x y ≡ predicted P (P.reads marks m) m s x y
      alone_at s x y hx hy =
          table_at P.side (λ x. predicted P marks m s x y) (λ x. predicted P (P.reads marks m) m s x y)
          (table_at P.side (λ y. table P.side (λ x. predicted P marks m s x y)) (λ y. table P.side (λ x. predicted P (P.reads marks m) m s x y)) whole y hy) x hx
        where
          whole : block P marks m s ≡ block P (P.reads marks m) m s
          whole =
              rw ok at (at_mode modes (λ m marks. cond (permits P marks m) (block P marks m s) [])
              (λ m marks. cond (permits P marks m) (block P (P.reads marks m) m s) []) (alone s) m low marks)

      kept_at : permits P (P.reads marks m) m ≡ true
      kept_at =
          implied (permits P marks m) (permits P (P.reads marks m) m)
          (at_mode modes (λ m marks. not (permits P marks m) || permits P (P.reads marks m) m) (λ m marks. true) kept m low marks) ok

      decides : (s t : Samples) → ((g : Group) → P.reads marks m g ≡ true → SameIn P s t g)
          → (x y : ℕ) → x < P.side → y < P.side → predicted P marks m s x y ≡ predicted P marks m t x y
      decides s t e x y hx hy =
          alone_at s x y hx hy
          ∙ unread m (P.reads marks m above) (P.reads marks m left) (P.reads marks m corner) _ _ kept_at (near_agree P.side wide narrow (P.reads marks m) s t e) x y hx hy
          ∙ sym (alone_at t x y hx hy)

    module _ (k : Group) where
      permitted_of : P.reads marks m k ≡ true → permits P marks m ≡ true
      permitted_of r = go (permits P marks m) refl
        where
          go : (b : Bool) → permits P marks m ≡ b → b ≡ true
          go true e = refl
          go false e = absurd (not_both r (none marks m k e))

      shown_at : P.reads marks m k ≡ true → shows P marks m k ≡ true
      shown_at r =
          implied (P.reads marks m k) (shows P marks m k)
          (at_group (λ k. not (P.reads marks m k) || shows P marks m k) (λ k. true)
          (at_mode modes (λ m marks. by_group (λ k. not (P.reads marks m k) || shows P marks m k)) (λ m marks. by_group (λ k. true)) shown m (low (permitted_of r)) marks) k) r

      minds : P.reads marks m k ≡ true → Minds P marks m k
      minds r =
          let d = not-true _ (and_right (marks k) (not (all_below P.side (λ y. all_below P.side (same P marks m k y)))) (shown_at r)) in
          let y = all_fails P.side (λ y. all_below P.side (same P marks m k y)) d in
          let x = all_fails P.side (same P marks m k y.0) y.2 in
          record {
            s = dark;
            t = lit k;
            s_bytes = λ g i. lit≤ tt;
            t_bytes = λ g i. choose (λ (v : ℕ). v < 256) (eqb (number g) (number k)) 255 0 (λ _. lit≤ tt) (λ _. lit≤ tt);
            elsewhere = λ g h i _. rw (another g k h);
            x = x.0;
            y = y.0;
            x_in = x.1;
            y_in = y.1;
            differ = eqb-false _ _ x.2;
          }

      read : permits P marks m ≡ true → Minds P marks m k → P.reads marks m k ≡ true
      read ok w = go (P.reads marks m k) refl
        where
          go : (b : Bool) → P.reads marks m k ≡ b → b ≡ true
          go true e = refl
          go false e =
              absurd (w.differ (decides ok w.s w.t (λ g r. w.elsewhere g (λ f. not_both (sym (ap (P.reads marks m) f) ∙ r) e)) w.x w.y w.x_in w.y_in))

  exact : Exactly P
  exact = record {
    exactly = λ marks m k ok. (minds marks m k, read marks m k ok);
    refused = none;
    there = λ marks m k r. and_left (marks k) (not (all_below P.side (λ y. all_below P.side (same P marks m k y)))) (shown_at marks m k r);
    decides = decides;
  }

-- ---- the four predictors. A mode that is known is below 9, or below 4
few : (P : ℕ → Bool) (n m : ℕ) → (n ≤ m → P m ≡ false) → P m ≡ true → m < n
few P n m none ok = go (dec_lt m n)
  where
    go : Dec (m < n) → m < n
    go (yes h) = h
    go (no h) = absurd (not_both ok (none (omega arith)))

few_nxn : (a l c : Bool) (m : ℕ) → permitted_nxn a l c m ≡ true → m < 9
few_nxn a l c m =
    few (permitted_nxn a l c) 9 m (λ h. rw (
      ne_eqb m 0 (omega arith),
      ne_eqb m 1 (omega arith),
      ne_eqb m 2 (omega arith),
      ne_eqb m 3 (omega arith),
      ne_eqb m 4 (omega arith),
      ne_eqb m 5 (omega arith),
      ne_eqb m 6 (omega arith),
      ne_eqb m 7 (omega arith),
      ne_eqb m 8 (omega arith),
    ))

few_16x16 : (a l c : Bool) (m : ℕ) → permitted16x16 a l c m ≡ true → m < 4
few_16x16 a l c m =
    few (permitted16x16 a l c) 4 m
    (λ h. rw (ne_eqb m 0 (omega arith), ne_eqb m 1 (omega arith), ne_eqb m 2 (omega arith), ne_eqb m 3 (omega arith)))

few_chroma : (a l c : Bool) (m : ℕ) → permitted_chroma a l c m ≡ true → m < 4
few_chroma a l c m =
    few (permitted_chroma a l c) 4 m
    (λ h. rw (ne_eqb m 0 (omega arith), ne_eqb m 1 (omega arith), ne_eqb m 2 (omega arith), ne_eqb m 3 (omega arith)))

pub unread_4x4 : Unread luma4x4 8
unread_4x4 m a l c p q ok w x y hx hy = promise_4x4.absent_unread m a l c p q x y ok hx hy w

pub unread_8x8 : Unread luma8x8 16
unread_8x8 m a l c p q ok w x y hx hy = promise_8x8.absent_unread m a l c p q x y ok hx hy w

pub unread_16x16 : Unread luma16x16 16
unread_16x16 = whole_promise.luma

pub unread_chroma : Unread chroma8x8 8
unread_chroma = whole_promise.chroma

pub exactly_4x4 : Exactly luma4x4
exactly_4x4 = exact luma4x4 9 8 (lit≤ tt) few_nxn (λ marks m k e. ap (λ b. b && named_nxn m k && marks k) e) unread_4x4 alone_4x4 kept_4x4 shown_4x4

pub exactly_8x8 : Exactly luma8x8
exactly_8x8 = exact luma8x8 9 16 (lit≤ tt) few_nxn none_8x8 unread_8x8 alone_8x8 kept_8x8 shown_8x8

pub exactly_16x16 : Exactly luma16x16
exactly_16x16 =
    exact luma16x16 4 16 (lit≤ tt) few_16x16 (λ marks m k e. ap (λ b. b && named16x16 m k && marks k) e) unread_16x16 alone_16x16 kept_16x16 shown_16x16

pub exactly_chroma : Exactly chroma8x8
exactly_chroma =
    exact chroma8x8 4 8 (lit≤ tt) few_chroma (λ marks m k e. ap (λ b. b && named_chroma m k && marks k) e) unread_chroma alone_chroma kept_chroma shown_chroma

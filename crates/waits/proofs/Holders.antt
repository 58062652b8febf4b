-- Who holds what a block reads, and sets of neighbours by their four marks. Assumes nothing.
use mathlib.Core.Path.{◌≡◌, refl, sym, ap, ◌∙◌, subst}
use mathlib.Core.Bool.{Bool, true, false, cond, not, ◌&&◌, ◌||◌}
use mathlib.Core.List.{List, [], ◌∷◌}
use Prim.Native.Nat.{ℕ, ◌+◌, ◌-◌, ◌<◌}
use native.Mathlib.Omega.{arith}
use borrow.Author.Tests.{eqb-true, eqb-false, ne_eqb, le-leb, lt-leb}
use lib.Dec.{eqb, ltb, leb}
use lib.ListN.{get_or}
use Rattle.laws.proofs.Tables.{get_d_table}
use Rattle.laws.proofs.Tests.{or_left, or_right, or_either, not_both}
use Rattle.basics.specs.Nnz.{blk_idx}
use Rattle.maps.specs.Neighbours.{Side, marks_of}
use Rattle.maps.specs.Neighbours.Side.{A, B, C, D}
use Rattle.maps.specs.declared.neighbours.Marks.{Marks}
use Rattle.cut.specs.Cut.{scan_x, scan_y, scan_columns, scan_rows, scan_figure, Holder, holder_at, held_by, is_there, sides_of}
use Rattle.cut.specs.Cut.Holder.{own, other, nobody}
use Rattle.cut.specs.inner.Blocks.{BlockOf}
use Rattle.cut.proofs.Scan.{few_blocks}
use Rattle.reads.specs.Groups.{Group, groups_of}
use Rattle.reads.specs.Groups.Group.{above, left, corner, above_right}
use Rattle.reads.proofs.Tables.{by_test, by_marks, at_test, at_marks}
use Rattle.waits.specs.Waits.{holder_of, only, is_holder, some_group, holds_one}
use Rattle.waits.specs.inner.Holders.{holders_at}

pub only_self : (d : Side) → only d d ≡ true
only_self A = refl
only_self B = refl
only_self C = refl
only_self D = refl

no : {P : Type 0} → ◌≡◌ {A = Bool} false true → P
no e = absurd (not_both {b = false} e refl)

-- a neighbour that is the holder is marked where what it holds is there
only_marked : (marks : Side → Bool) (d e : Side) → only d e ≡ true → marks e ≡ true → marks d ≡ true
only_marked marks A A t h = h
only_marked marks A B t h = no t
only_marked marks A C t h = no t
only_marked marks A D t h = no t
only_marked marks B A t h = no t
only_marked marks B B t h = h
only_marked marks B C t h = no t
only_marked marks B D t h = no t
only_marked marks C A t h = no t
only_marked marks C B t h = no t
only_marked marks C C t h = h
only_marked marks C D t h = no t
only_marked marks D A t h = no t
only_marked marks D B t h = no t
only_marked marks D C t h = no t
only_marked marks D D t h = h

pub holder_marked : (marks : Side → Bool) (d : Side) (h : Holder) → is_holder d h ≡ true → held_by marks h ≡ true → marks d ≡ true
holder_marked marks d own t e = no t
holder_marked marks d (other f) t e = only_marked marks d f t e
holder_marked marks d nobody t e = no t

-- ---- a block's groups are there where their holders are marked
pub group_there : (m : ℕ) (marks : Side → Bool) (k : ℕ) (g : Group) → groups_of (sides_of m marks k) g ≡ held_by marks (holder_of m k g)
unfolding is_there
group_there m marks k above = refl
group_there m marks k left = refl
group_there m marks k corner = refl
group_there m marks k above_right = refl

-- ---- some group
pub some_group_lem : (f : Group → Bool) (g : Group) → f g ≡ true → some_group f ≡ true
some_group_lem f above e = or_left (f above || f left || f corner) (f above_right) (or_left (f above || f left) (f corner) (or_left (f above) (f left) e))
some_group_lem f left e = or_left (f above || f left || f corner) (f above_right) (or_left (f above || f left) (f corner) (or_right (f above) (f left) e))
some_group_lem f corner e = or_left (f above || f left || f corner) (f above_right) (or_right (f above || f left) (f corner) e)
some_group_lem f above_right e = or_right (f above || f left || f corner) (f above_right) e

pub which_group : (f : Group → Bool) → some_group f ≡ true → (g : Group) × (f g ≡ true)
which_group f e =
    or_either (f above || f left || f corner) (f above_right)
    (or_either (f above || f left) (f corner) (or_either (f above) (f left) (λ t. (above, t)) (λ t. (left, t))) (λ t. (corner, t)))
    (λ t. (above_right, t)) e

pub group_same : (f g : Group → Bool) → ((k : Group) → f k ≡ g k) → some_group f ≡ some_group g
group_same f g e = ap some_group (λ i k. e k i)

-- ---- a set of neighbours is told by its four marks
pub marks_are : {r : Marks} {f : Side → Bool} → r.a ≡ f A → r.b ≡ f B → r.c ≡ f C → r.d ≡ f D → marks_of r ≡ f
marks_are {r} {f} ea eb ec ed = λ i k. at k i
  where
    at : (k : Side) → marks_of r k ≡ f k
    at A = ea
    at B = eb
    at C = ec
    at D = ed

-- and where none is marked it is empty
pub no_marks : {r : Marks} → (r.a ≡ false) × ((r.b ≡ false) × ((r.c ≡ false) × (r.d ≡ false))) → marks_of r ≡ (λ _. false)
no_marks (a, (b, (c, d))) = marks_are a b c d

-- ---- who holds a block's groups, by where the block stands
-- 6.4.12: the neighbour in the first column of places, in the first row, and beyond the last column or not
abbrev neighbour_at : (first_column first_row inside : Bool) → Side → Bool
neighbour_at i j n A = not j && i
neighbour_at i j n B = j && (not i && n)
neighbour_at i j n C = j && (not i && not n)
neighbour_at i j n D = j && i

neighbour_at_lem : (i j n e : Bool) (d : Side)
    → is_holder d (cond j (cond i (other D) (cond n (other B) (other C))) (cond i (other A) (cond (n && e) own nobody))) ≡ neighbour_at i j n d
neighbour_at_lem true true n e A = refl
neighbour_at_lem true true n e B = refl
neighbour_at_lem true true n e C = refl
neighbour_at_lem true true n e D = refl
neighbour_at_lem true false n e A = refl
neighbour_at_lem true false n e B = refl
neighbour_at_lem true false n e C = refl
neighbour_at_lem true false n e D = refl
neighbour_at_lem false true true e A = refl
neighbour_at_lem false true true e B = refl
neighbour_at_lem false true true e C = refl
neighbour_at_lem false true true e D = refl
neighbour_at_lem false true false e A = refl
neighbour_at_lem false true false e B = refl
neighbour_at_lem false true false e C = refl
neighbour_at_lem false true false e D = refl
neighbour_at_lem false false true true A = refl
neighbour_at_lem false false true true B = refl
neighbour_at_lem false false true true C = refl
neighbour_at_lem false false true true D = refl
neighbour_at_lem false false true false A = refl
neighbour_at_lem false false true false B = refl
neighbour_at_lem false false true false C = refl
neighbour_at_lem false false true false D = refl
neighbour_at_lem false false false e A = refl
neighbour_at_lem false false false e B = refl
neighbour_at_lem false false false e C = refl
neighbour_at_lem false false false e D = refl

neighbour_is : (m k i j : ℕ) (d : Side) → is_holder d (holder_at m k i j) ≡ neighbour_at (eqb i 0) (eqb j 0) (leb i m) d
neighbour_is m k i j d = neighbour_at_lem (eqb i 0) (eqb j 0) (leb i m) (ltb (blk_idx (i - 1) (j - 1)) k) d

-- the place of each group
abbrev group_at : (first_column first_row last_column : Bool) → Group → Side → Bool
group_at u v r above = neighbour_at false v true
group_at u v r left = neighbour_at u false true
group_at u v r corner = neighbour_at u v true
group_at u v r above_right = neighbour_at false v (not r)

abbrev by_side : {A : Type 0} → (Side → A) → List A
by_side f = f A ∷ f B ∷ f C ∷ f D ∷ []

at_side : {A : Type 0} (f g : Side → A) → by_side f ≡ by_side g → (d : Side) → f d ≡ g d
at_side f g e A = ap (λ l. get_or l 0 (f A)) e
at_side f g e B = ap (λ l. get_or l 1 (f A)) e
at_side f g e C = ap (λ l. get_or l 2 (f A)) e
at_side f g e D = ap (λ l. get_or l 3 (f A)) e

abbrev said : Bool → Bool → Bool → Side → (Group → Bool) → Bool
said u v r d read = holders_at u v r read d

abbrev due : Bool → Bool → Bool → Side → (Group → Bool) → Bool
due u v r d read = some_group (λ g. read g && group_at u v r g d)

computed : by_test (λ u. by_test (λ v. by_test (λ r. by_side (λ d. by_marks (said u v r d))))) ≡ by_test (λ u. by_test (λ v. by_test (λ r. by_side (λ d. by_marks (due u v r d)))))
computed = refl

said_due : (u v r : Bool) (d : Side) (read : Group → Bool) → said u v r d read ≡ due u v r d read
said_due u v r d =
    at_marks (said u v r d) (due u v r d)
    (at_side (λ d. by_marks (said u v r d)) (λ d. by_marks (due u v r d))
    (at_test (λ r. by_side (λ d. by_marks (said u v r d))) (λ r. by_side (λ d. by_marks (due u v r d)))
    (at_test (λ v. by_test (λ r. by_side (λ d. by_marks (said u v r d)))) (λ v. by_test (λ r. by_side (λ d. by_marks (due u v r d))))
    (at_test (λ u. by_test (λ v. by_test (λ r. by_side (λ d. by_marks (said u v r d))))) (λ u. by_test (λ v. by_test (λ r. by_side (λ d. by_marks (due u v r d))))) computed u) v) r) d)

-- in no first column and no first row, no neighbour holds anything
no_holder : (r : Bool) (read : Group → Bool) (d : Side) → false ≡ holders_at false false r read d
no_holder r read A = refl
no_holder r read B = refl
no_holder r read C = refl
no_holder r read D = refl

module _ (m k : ℕ) (b : BlockOf m k) where
  abbrev u : ℕ
  u = scan_x k

  abbrev v : ℕ
  v = scan_y k

  in_row : u < m
  in_row = b.scan.x_lt k b.one

  -- the tables of Figure 6-10 have them
  low : k < 16
  low = few_blocks k m b.one b.few

  pub column_is : get_or scan_columns k 0 ≡ u
  column_is = ap (λ l. get_or l k 0) scan_figure.0 ∙ get_d_table 0 16 scan_x k low

  pub row_is : get_or scan_rows k 0 ≡ v
  row_is = ap (λ l. get_or l k 0) scan_figure.1 ∙ get_d_table 0 16 scan_y k low

  not_last : leb (u + 2) m ≡ not (eqb (u + 1) m)
  not_last = go (eqb (u + 1) m) refl
    where
      go : (t : Bool) → eqb (u + 1) m ≡ t → leb (u + 2) m ≡ not t
      go true e = lt-leb (u + 2) m (omega (arith, eqb-true (u + 1) m e))
      go false e = le-leb (u + 2) m (omega (arith, in_row, eqb-false (u + 1) m e))

  held : (g : Group) (d : Side) → is_holder d (holder_of m k g) ≡ group_at (eqb u 0) (eqb v 0) (eqb (u + 1) m) g d
  held above d = neighbour_is m k (u + 1) v d ∙ rw (ne_eqb (u + 1) 0 (omega arith), le-leb (u + 1) m (omega (arith, in_row)))
  held left d = neighbour_is m k u (v + 1) d ∙ rw (ne_eqb (v + 1) 0 (omega arith), le-leb u m (omega (arith, in_row)))
  held corner d = neighbour_is m k u v d ∙ rw (le-leb u m (omega (arith, in_row)))
  held above_right d = neighbour_is m k (u + 2) v d ∙ rw (ne_eqb (u + 2) 0 (omega arith), not_last)

  pub holders_are : (read : Group → Bool) → holders_at (eqb u 0) (eqb v 0) (eqb (u + 1) m) read ≡ holds_one m k read
  holders_are read = λ i d. at d i
    where
      at : (d : Side) → holders_at (eqb u 0) (eqb v 0) (eqb (u + 1) m) read d ≡ holds_one m k read d
      at d =
          said_due (eqb u 0) (eqb v 0) (eqb (u + 1) m) d read
          ∙ group_same (λ g. read g && group_at (eqb u 0) (eqb v 0) (eqb (u + 1) m) g d) (λ g. read g && is_holder d (holder_of m k g))
          (λ g. ap (λ b. read g && b) (sym (held g d)))

  -- no neighbour holds a group of a block that stands neither in the first column nor in the first row
  pub inside_none : (read : Group → Bool) → eqb u 0 ≡ false → eqb v 0 ≡ false → ◌≡◌ {A = Side → Bool} (λ _. false) (holds_one m k read)
  inside_none read e f = (λ i d. none d i) ∙ holders_are read
    where
      none : (d : Side) → false ≡ holders_at (eqb u 0) (eqb v 0) (eqb (u + 1) m) read d
      none d =
          subst (λ (x : Bool). false ≡ holders_at x (eqb v 0) (eqb (u + 1) m) read d) (sym e)
          (subst (λ (y : Bool). false ≡ holders_at false y (eqb (u + 1) m) read d) (sym f) (no_holder (eqb (u + 1) m) read d))

-- `maps::neighbours::marks_inside` meets its contract: each neighbour is as far back as its place says. Assumes nothing.
use mathlib.Core.Path.{◌≡◌, ◌∙◌}
use native.Mathlib.Omega.{arith}
use Rattle.maps.specs.Neighbours.{Side, marks_of, available}
use Rattle.maps.specs.Neighbours.Side.{A, B, C, D}
use Rattle.maps.proofs.Beside.{available_is}
use Rattle.maps.proofs.neighbours.marks_inside.Goals as goal

pub returns : goal.returns
returns c = λ i k. each k i
  where
    each : (k : Side) → marks_of (record {
      a = c.same_slice-a.result;
      b = c.same_slice-b.result;
      c = c.same_slice-c.result;
      d = c.same_slice-d.result;
    }) k ≡ let a = c.args in available a.w a.slices.now a.x a.y k
    each A = let a = c.args in c.same_slice-a.ensures ∙ available_is a.w a.x a.y a.slices.now A (omega arith)
    each B = let a = c.args in c.same_slice-b.ensures ∙ available_is a.w a.x a.y a.slices.now B (omega arith)
    each C = let a = c.args in c.same_slice-c.ensures ∙ available_is a.w a.x a.y a.slices.now C (omega arith)
    each D = let a = c.args in c.same_slice-d.ensures ∙ available_is a.w a.x a.y a.slices.now D (omega arith)

-- A neighbour that is waited for is available. Assumes nothing.
use mathlib.Core.Path.{◌≡◌}
use mathlib.Core.Bool.{true}
use Rattle.maps.specs.Neighbours.{Side}
use Rattle.waits.proofs.Narrow.{waits_marked}
use Rattle.calls.specs.Rebuild.{Call, marks, waits_for}

pub waits_available : (c : Call) (k : Side) → waits_for c k ≡ true → marks c k ≡ true
waits_available c k e = waits_marked (marks c) c.mb k e

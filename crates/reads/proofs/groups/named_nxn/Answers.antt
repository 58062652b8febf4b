-- `reads::groups::named_nxn` meets its contract: each side by the tests of it. Assumes nothing.
use Rattle.std.proofs.Common.{refl}
use Rattle.reads.proofs.Tables.{groups_are}
use Rattle.reads.proofs.groups.named_nxn.Goals as goal

pub returns : goal.returns
returns c = groups_are refl refl refl refl

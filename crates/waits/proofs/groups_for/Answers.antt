-- `waits::groups_for` meets its contract, kind by kind. Assumes nothing.
use Rattle.waits.proofs.groups_for.Goals as goal

pub returns-in-Luma4x4 : goal.returns-in-Luma4x4
returns-in-Luma4x4 c = rw c.in-Luma4x4.is c.groups.ensures.value

pub returns-in-Luma8x8 : goal.returns-in-Luma8x8
returns-in-Luma8x8 c = rw c.in-Luma8x8.is c.groups-in-Luma8x8.ensures.value

pub returns-in-Luma16x16 : goal.returns-in-Luma16x16
returns-in-Luma16x16 c = rw c.in-Luma16x16.is c.groups-in-Luma16x16.ensures.value

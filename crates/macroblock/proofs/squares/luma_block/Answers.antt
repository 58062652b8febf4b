-- `macroblock::squares::luma_block` meets its contract, kind by kind. Assumes nothing.
use Rattle.macroblock.proofs.squares.luma_block.Goals as goal

pub returns-in-Luma4x4 : goal.returns-in-Luma4x4
returns-in-Luma4x4 c = rw c.in-Luma4x4.is c.block_4x4.ensures

pub returns-in-Luma8x8 : goal.returns-in-Luma8x8
returns-in-Luma8x8 c = rw c.in-Luma8x8.is c.block_8x8.ensures

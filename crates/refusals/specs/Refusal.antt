-- A refusal's number, and the answer that a call's outcome is for C.
use Rattle.std.specs.Prelude.{ℕ, Result, Ok, Err}
use Rattle.refusals.specs.declared.Refusal.{Refusal}
use Rattle.refusals.specs.declared.Refusal.TheVariants.{Size, Room, Place, Done, NotReady, Unknown, NotPermitted, Range, Rows, Order}

abbrev pub number : Refusal → ℕ
number Size = 1
number Room = 2
number Place = 3
number Done = 4
number NotReady = 5
number Unknown = 6
number NotPermitted = 7
number Range = 8
number Rows = 9
number Order = 13

-- 0 where the call does what it was asked, else the number of its refusal
abbrev pub number_of : {T : Type 0} → Result T Refusal → ℕ
number_of (Ok _) = 0
number_of (Err refusal) = number refusal

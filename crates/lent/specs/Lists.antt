-- What a list over lent places holds.
use Rattle.std.specs.Prelude.{ℕ, List, length, take, drop}
use Rattle.std.specs.Borrow.{GName}
use Rattle.lent.specs.declared.list.LentList.{LentList}

-- how many places there are in all
abbrev pub room : {T : Type 0} → LentList T → ℕ
room l = length l.places.now

-- the items in use, in order
abbrev pub listed : {T : Type 0} → LentList T → List T
listed l = take l.count l.places.now

-- what stands in the places after those
abbrev pub unused : {T : Type 0} → LentList T → List T
unused l = drop l.count l.places.now

-- the loan of the places, by which their owner knows them again
abbrev pub lender : {T : Type 0} → LentList T → GName
lender l = l.places.ghost_name

-- The rows of a record and of a table of 64 records, and their laws. Both are plain data: what is owned of them is had
-- for nothing, each value is of its type, and a machine value is a function of the record.
use Prim.Native.Nat.{ℕ}
use mathlib.Core.List.{List, [], ◌∷◌}
use seplogic.Ra.Ura.{Ura}
use mir.Syntax.{named}
use mir.Val.{Val}
use base.Fml.{Lft, Fml}
use types.Logic.{Logic}
use denote.RattleType.{RattleType, RowLaws}
use denote.Memory.{mem}
use denote.Array.{Array, array_vals, Array-Tells, Array-Lawful, Array-Makes}
use denote.Ref.{Bor, MutBor}
use denote.Slice.{MutSlice, ShrSlice, shr_slice_vals, mut_slice_vals}
use denote.Steps.{only}
use denote.Laws.{Is, Tells, Lawful, Makes, Copy}
use denote.Struct.Laws as LL
use Rattle.line.specs.declared.Block.{Block}
use Rattle.line.specs.contracts.Block as B
use Rattle.line.proofs.Block.TheLaws as B'

abbrev pub RB : RattleType
RB = B.the_row

abbrev pub RT : RattleType
RT = Array B.the_row 64

abbrev pub record_val : Block → Val
record_val d = LL.val B.the_type B'.the_laws d

abbrev pub record_vals : Block → List Val
record_vals d = record_val d ∷ []

abbrev pub table_vals : List Block → List Val
table_vals t = array_vals record_vals t

abbrev pub table_val : List Block → Val
table_val t = only (table_vals t)

pub record_tells : Tells RB (Is RB) record_vals
record_tells = LL.tells B.the_type B'.the_laws

pub table_tells : Tells RT (Is RT) table_vals
table_tells = Array-Tells RB record_vals record_tells 64

-- what is owned of a table that is lent as a `&`, and of one that is lent as a `&mut`
abbrev pub Shared : Lft → Bor (List Block) → Fml
Shared κ x = (ShrSlice (named 0) κ RB).own_val x (shr_slice_vals x)

abbrev pub Lent : Lft → MutBor (List Block) → Fml
Lent κ x = (MutSlice (named 0) κ RB).own_val x (mut_slice_vals x)

-- what a `&` to a record holds at a lifetime, at each place
pub record_row_laws : RowLaws RB
record_row_laws d = (LL.field_copy B.the_type B'.the_copy).shr_laws ((B.the_type).to d)

-- how many bytes a record has
abbrev pub bytes_each : ℕ
bytes_each = (mem RB).size

module _ {M : Type 1} {𝓤 : Ura M} (𝓛 : Logic 𝓤) where
  pub record_makes : Makes 𝓛 RB (Is RB)
  record_makes = LL.makes B.the_type B'.the_plain 𝓛

  pub record_lawful : Lawful 𝓛 RB
  record_lawful = LL.lawful B.the_type B'.the_laws 𝓛

  pub record_copy : Copy 𝓛 RB
  record_copy = LL.copy B.the_type B'.the_copy 𝓛

  pub table_makes : Makes 𝓛 RT (Is RT)
  table_makes = Array-Makes 𝓛 RB record_makes 64

  pub table_lawful : Lawful 𝓛 RT
  table_lawful = Array-Lawful 𝓛 RB record_lawful 64

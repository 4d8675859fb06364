-- The rules asked in their order, over what the code reads of them: the head's, and those of one block.
use Rattle.std.specs.Prelude.{List, ℕ, ◌-◌, ◌%◌, ◌==◌, count_by, if◌then◌else◌}
use Rattle.book.specs.Choice.{◌≤ᵇ◌}
use Rattle.line.specs.declared.Block.{Block}
use Rattle.line.specs.declared.Head.{Head}
use Rattle.line.specs.Line.{size_of, record_of}
use Rattle.line.specs.Check.{Checked, sound, broken}
use Rattle.line.specs.Tests.{obeys1, obeys2, obeys3, obeys4, obeys5, obeys6, obeys7}

abbrev pub head_asked : Head → List Block → Checked
head_asked h tb =
    let here = record_of (size_of h) tb in
    if obeys1 h.nb h.p h.k
    then (if obeys2 (here h.k) h.reading then (if obeys3 (size_of h) h.p here h.desks then sound else broken 64 3) else broken 64 2)
    else broken 64 1

-- of block i, c is its record and t its current turn; `turns` are those that desks hold in
abbrev pub block_asked : (nb ne p : ℕ) → List ℕ → ℕ → Block → Checked
block_asked nb ne p turns i c =
    let t = p - (p - i) % nb in
    let used = i ≤ᵇ p in
    if obeys4 used c nb t
    then
    (if obeys5 used c ne p t
    then (if obeys6 used c t then (if obeys7 used c (count_by (λ x. x == t) turns) then sound else broken i 7) else broken i 6)
    else broken i 5)
    else broken i 4

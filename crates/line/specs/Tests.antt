-- The test of each rule, over the numbers, the desk or the record that it reads: what the check of a line applies, and what the
-- code that tests a rule promises. proofs/Check.antt shows that each is the rule of the same number in specs/Rules.antt.
use Rattle.std.specs.Prelude.{Bool, true, false, not, ◌&&◌, ◌||◌, List, [], ◌∷◌, ℕ, ◌+◌, ◌-◌, ◌*◌, ◌/◌, drop, if◌then◌else◌}
use Rattle.book.specs.Choice.{◌<ᵇ◌, ◌≤ᵇ◌, ◌≡ᵇ◌}
use Rattle.book.specs.Total.{any, all}
use Rattle.book.specs.Sizes.{Size, fits}
use Rattle.book.specs.Steps.{Desk, idle, looked, holding}
use Rattle.line.specs.Line.{LentDesk, Block, Spot, desk_of}

-- the numbers within their limits, n records lent and m entries
abbrev pub fitting : Size → ℕ → ℕ → Bool
fitting z n m = fits z && n ≡ᵇ z.nb && m ≡ᵇ z.nb * z.ne

-- turn t is its block's current one: it is among the last NB turns up to P
abbrev pub is_recent : ℕ → ℕ → ℕ → Bool
is_recent nb p t = t ≤ᵇ p && p - t <ᵇ nb

-- ---- the head

abbrev pub obeys1 : ℕ → ℕ → ℕ → Bool
obeys1 nb p k = is_recent nb p k && p <ᵇ 65536 * nb

-- c is the record of turn K's block
abbrev pub obeys2 : Block → ℕ → Bool
obeys2 c reading = c.claimed ≤ᵇ reading && reading ≤ᵇ c.written

-- rule 3 of one desk, and c the record of its turn's block; a stage above 3 is no stage
abbrev pub desk_obeys : ℕ → ℕ → ℕ → Block → Desk Spot → Bool
desk_obeys nb ne p c idle = true
desk_obeys nb ne p c (looked s) = s.turn ≤ᵇ p && s.place <ᵇ ne && (not (is_recent nb p s.turn) || s.place <ᵇ c.written)
desk_obeys nb ne p c (holding h) = is_recent nb p h.at.turn && h.at.place <ᵇ c.claimed

abbrev pub is_idle : Desk Spot → Bool
is_idle idle = true
is_idle (looked s) = false
is_idle (holding h) = false

-- does this desk hold spot s
abbrev pub holds_at : Spot → Desk Spot → Bool
holds_at s idle = false
holds_at s (looked x) = false
holds_at s (holding h) = h.at.turn ≡ᵇ s.turn && h.at.place ≡ᵇ s.place

-- does one of the later desks hold this desk's spot
abbrev pub clashes : Desk Spot → List LentDesk → Bool
clashes idle xs = false
clashes (looked s) xs = false
clashes (holding h) xs = any (λ x. holds_at h.at (desk_of x)) xs

unfoldable pub no_clash : List LentDesk → Bool
no_clash [] = true
no_clash (x ∷ xs) = not (clashes (desk_of x) xs) && no_clash xs

-- `here t` is the record of turn t's block
unfoldable pub obeys3 : Size → ℕ → (ℕ → Block) → List LentDesk → Bool
obeys3 z p here xs =
    all (λ x. x.stage ≤ᵇ 3 && desk_obeys z.nb z.ne p (here x.turn) (desk_of x)) xs && all (λ x. is_idle (desk_of x)) (drop z.t xs) && no_clash xs

-- ---- a block that is used or not, with its record c, its current turn t, and that turn's holders

abbrev pub obeys4 : Bool → Block → ℕ → ℕ → Bool
obeys4 used c nb t =
    if used then c.round ≡ᵇ t / nb
    else c.round ≡ᵇ 0 && c.written ≡ᵇ 0 && c.claimed ≡ᵇ 0 && c.finished ≡ᵇ 0

abbrev pub obeys5 : Bool → Block → ℕ → ℕ → ℕ → Bool
obeys5 used c ne p t = not used || c.written ≤ᵇ ne && (if t <ᵇ p then c.written ≡ᵇ ne else p ≡ᵇ 0 || 1 ≤ᵇ c.written)

abbrev pub obeys6 : Bool → Block → ℕ → Bool
obeys6 used c t = not used || c.claimed ≤ᵇ c.written && (not (t ≡ᵇ 0) || c.claimed ≡ᵇ 0)

abbrev pub obeys7 : Bool → Block → ℕ → Bool
obeys7 used c held = not used || c.claimed ≡ᵇ c.finished + held

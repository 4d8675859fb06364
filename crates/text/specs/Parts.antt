-- What the functions behind `bytes_of` promise: the first line of a text, the numbers that were read, and what was written.
use Rattle.std.specs.Prelude.{◌≡◌, List, ◌∷◌, ℕ, ◌+◌, ◌≤◌, ◌<◌, length, if◌then◌else◌, Result, Ok, Err, Option, MatchOption}
use Rattle.std.specs.Borrow.{Bor}
use Rattle.text.specs.declared.pieces.Lines.{Lines}
use Rattle.book.specs.Choice.{◌≡ᵇ◌}
use Rattle.printing.specs.declared.Page.{Page}
use Rattle.printing.specs.Page.{Wrote}
use Rattle.text.specs.declared.items.Args.{Args}
use Rattle.text.specs.declared.wanted.Bad.{Bad}
use Rattle.text.specs.Meaning.{Meaning}
use Rattle.text.specs.Pieces.{lines, bare}

-- the first line of a text, as it is lent, and the text behind it
pub record FirstLine (t line rest : List ℕ) : Type 0 where
  pub raw : List ℕ
  pub is : line ≡ bare raw
  pub splits : lines t ≡ raw ∷ lines rest
  pub shorter : length line + length rest ≤ length t
  pub less : length rest < length t

-- what a step through the lines of a text gives: its first line, and the text behind it, which is left
abbrev pub LineGiven : Lines → Option (Bor (List ℕ) × Bor (List ℕ)) → Lines → Type 0
LineGiven s r t = MatchOption r (length s.0.now ≡ 0) (λ x. FirstLine s.0.now x.0.now x.1.now × (t.0.now ≡ x.1.now))

-- one number more than was read
abbrev pub more : Args → ℕ → Args
more r n =
    let k = r.count in
    record {
      count = k + 1;
      a = if k ≡ᵇ 0 then n else r.a;
      b = if k ≡ᵇ 1 then n else r.b;
      c = if k ≡ᵇ 2 then n else r.c;
    }

-- what a text means was written; where it is refused, something may have been
unfoldable pub Filled : Meaning → Page → Result Unit Bad → Page → Type 0
Filled (Ok bs) before r after = (r ≡ Ok tt) × Wrote bs before after
Filled (Err b) before r after = r ≡ Err b

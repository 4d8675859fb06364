-- What each function of the answers promises.
use Rattle.std.specs.Prelude.{◌≡◌, List, ℕ}
use Rattle.words.specs.Words.{Answer, said, letters}

abbrev pub Numbered : Answer → ℕ → Type 0
Numbered a r = r ≡ (said a).number

abbrev pub Valued : Answer → ℕ → Type 0
Valued a r = r ≡ (said a).value

abbrev pub Worded : Answer → List ℕ → Type 0
Worded a r = r ≡ letters (said a).word

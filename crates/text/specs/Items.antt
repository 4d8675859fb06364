-- What a line asks for. The first word says which form the line has: a step with its code, and how many numbers follow.
use Rattle.std.specs.Prelude.{Bool, true, false, ◌&&◌, List, ℕ, ◌+◌, ◌≤◌, length, get_or, if◌then◌else◌, Option, Some, None, Result, Ok, Err, is_some, MatchOption, ⊤}
use Rattle.std.specs.Str.{bytes_eq}
use Rattle.std.specs.List.{list_all}
use Rattle.words.specs.Words.{letters}
use Rattle.book.specs.Choice.{◌≤ᵇ◌, ◌≡ᵇ◌}
use Rattle.text.specs.declared.items.StepForm.{StepForm}
use Rattle.text.specs.declared.items.Form.{Form}
use Rattle.text.specs.declared.items.Form.TheVariants.{Step as step_form, Size as size_form, Bytes as bytes_form, Times as times_form, Name as name_form}
use Rattle.text.specs.declared.items.Args.{Args}
use Rattle.text.specs.declared.items.Item.{Item}
use Rattle.text.specs.declared.items.Item.TheVariants.{Nothing, Header, Steps, Numbers, Named}
use Rattle.text.specs.declared.wanted.Wanted.{Wanted}
use Rattle.text.specs.declared.wanted.Wanted.TheVariants.{Size, Put, Get, Order, Look, Claim, Fetch, Finish, Step, Bytes, Times, Name, Line}
use Rattle.text.specs.Pieces.{is_none, skip, word, behind, words, number, numbers, byte}

-- ---- forms

-- a step of a fixed code, with n numbers behind it
abbrev pub plain : ℕ → ℕ → Wanted → Option Form
plain c n w = Some (step_form (record { code = c; adding = None; follow = n; wanted = w }))

-- a step whose first number, at most m, is added to the code c, and n numbers behind that one
abbrev pub adding : ℕ → ℕ → ℕ → Wanted → Option Form
adding c m n w = Some (step_form (record { code = c; adding = Some m; follow = n; wanted = w }))

-- the first words
unfoldable pub form_of : List ℕ → Option Form
form_of w =
    if bytes_eq w (letters "put") then plain 0 1 Put
    else if bytes_eq w (letters "get") then plain 1 0 Get
    else if bytes_eq w (letters "order") then plain 2 2 Order
    else if bytes_eq w (letters "claim") then adding 16 15 0 Claim
    else if bytes_eq w (letters "fetch") then adding 32 15 0 Fetch
    else if bytes_eq w (letters "finish") then adding 48 15 0 Finish
    else if bytes_eq w (letters "look") then adding 64 15 1 Look
    else if bytes_eq w (letters "step") then adding 0 255 2 Step
    else if bytes_eq w (letters "size") then Some size_form
    else if bytes_eq w (letters "bytes") then Some bytes_form
    else if bytes_eq w (letters "times") then Some times_form
    else if bytes_eq w (letters "=") then Some name_form
    else None

-- a code and what is added to it are a byte
abbrev pub IsByteCode : StepForm → Type 0
IsByteCode f = MatchOption f.adding ⊤ (λ m. f.code + m ≤ 255)

abbrev pub HasByteCode : Option Form → Type 0
HasByteCode (Some (step_form f)) = IsByteCode f
HasByteCode _ = ⊤

-- ---- numbers

-- how many numbers there are, and the first three, 0 where there is none
unfoldable pub args_of : List ℕ → Args
args_of ns = record { count = length ns; a = get_or ns 0 0; b = get_or ns 1 0; c = get_or ns 2 0 }

-- ---- items

-- n times the step of a form, with these numbers
module _ (f : StepForm) (r : Args) (n : ℕ) where
  abbrev pub step_with : Option ℕ → Result Item Wanted
  step_with None = if r.count ≡ᵇ f.follow then Ok (Steps n f.code r.a r.b) else Err f.wanted
  step_with (Some m) = if r.count ≡ᵇ f.follow + 1 && r.a ≤ᵇ m then Ok (Steps n (f.code + r.a) r.b r.c) else Err f.wanted

abbrev pub step_item : StepForm → Option (List ℕ) → ℕ → Result Item Wanted
step_item f (Some ns) n = step_with f (args_of ns) n f.adding
step_item f None n = Err f.wanted

abbrev pub size_with : Args → Result Item Wanted
size_with r = if r.count ≡ᵇ 3 && (r.a ≤ᵇ 255 && (r.b ≤ᵇ 255 && r.c ≤ᵇ 255)) then Ok (Header r.a r.b r.c) else Err Size

abbrev pub size_item : Option (List ℕ) → Result Item Wanted
size_item (Some ns) = size_with (args_of ns)
size_item None = Err Size

-- one word or more, each a byte
abbrev pub bytes_item : List (List ℕ) → Result Item Wanted
bytes_item ws = if 1 ≤ᵇ length ws && list_all (λ w. is_some (byte w)) ws then Ok Numbers else Err Bytes

-- a number of times, and a step
abbrev pub repeated : Option ℕ → Option Form → Option (List ℕ) → Result Item Wanted
repeated (Some n) (Some (step_form f)) ns = step_item f ns n
repeated _ _ ns = Err Times

-- behind `times`
unfoldable pub times_item : List ℕ → Result Item Wanted
times_item l = repeated (number (word l)) (form_of (word (behind l))) (numbers (behind (behind l)))

-- behind `=`: the rest of the line
unfoldable pub name_of : List ℕ → List ℕ
name_of l = skip (behind l)

unfoldable pub name_item : List ℕ → Result Item Wanted
name_item l = if is_none (name_of l) then Err Name else Ok Named

module _ (l : List ℕ) where
  abbrev pub item_by : Option Form → Result Item Wanted
  item_by (Some (step_form f)) = step_item f (numbers (behind l)) 1
  item_by (Some size_form) = size_item (numbers (behind l))
  item_by (Some bytes_form) = bytes_item (words (behind l))
  item_by (Some times_form) = times_item (behind l)
  item_by (Some name_form) = name_item l
  item_by None = Err Line

-- a line with no word, and a line whose first word begins with #, ask for nothing
unfoldable pub item : List ℕ → Result Item Wanted
item l =
    if is_none (word l) then Ok Nothing
    else if get_or (word l) 0 0 ≡ᵇ 35 then Ok Nothing
    else item_by l (form_of (word l))

abbrev pub is_named : Result Item Wanted → Bool
is_named (Ok Named) = true
is_named _ = false

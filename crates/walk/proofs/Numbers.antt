-- Parameters that are numbers, by value, of any widths: what a signature has of them, their machine values, and that
-- each fits its width. A walk over such a list of widths serves all functions that differ in their numbers only.
use mathlib.Core.Path.{◌≡◌, refl, ap}
use Prim.Native.Nat.{ℕ}
use mathlib.Core.List.{List, [], ◌∷◌}
use seplogic.Ra.Ura.{Ura}
use mir.Syntax.{Width, Ty, ty_int}
use mir.Val.{Val, vint}
use base.Logic.{ent, emp, id⊢}
use base.Fml.{Fml}
use types.Logic.{Logic, sem}
use types.Kit.{‵, ◌$◌, ◌∵◌, !, qed, use0, fjoin, done}
use contract.Lifetimes.{Lfts}
use denote.RattleType.{RattleType, Denots, Valss, flat, owns}
use denote.Laws.{Typed, Ises, Are, Spells, valss, Tellss, Makess, owns_make}
use denote.Plain.{UInt, uint_vals, uint_Tells, uint_Lawful, uint_Makes}
use denote.Signature.{Slot, plain, types_at}
use denote.Steps.{nothing}
use denote.Exit.{yes}
use denote.Triple.End.{all, Fins}
use denote.Triple.Walked.{Stays, stay_dropped, fits_of, has_of, AllGo, Goes-dropped}

abbrev pub Numbers : List Width → Type 0
Numbers [] = Unit {0}
Numbers (w ∷ ws) = ℕ × Numbers ws

abbrev pub ints : List Width → List Ty
ints [] = []
ints (w ∷ ws) = ty_int w ∷ ints ws

-- ---- in a signature of n lifetimes. Nothing is had of them at exit, and nothing is said of them there
abbrev pub slots : (n : ℕ) → List Width → List (Slot n)
slots n [] = []
slots n (w ∷ ws) = plain (λ _. UInt w) ∷ slots n ws

abbrev pub stays : (n : ℕ) (ws : List Width) → Stays (slots n ws) (all yes (slots n ws))
stays n [] = tt
stays n (w ∷ ws) = (stay_dropped (plain (λ _. UInt w)) yes, stays n ws)

module _ (n : ℕ) (κs : Lfts n) where
  abbrev pub rows : List Width → List RattleType
  rows ws = types_at (slots n ws) κs

  -- the arguments as numbers, and numbers as arguments
  abbrev pub numbers : (ws : List Width) → Denots (rows ws) → Numbers ws
  numbers [] a = tt
  numbers (w ∷ ws) a = (a.0, numbers ws a.1)

  abbrev pub args : (ws : List Width) → Numbers ws → Denots (rows ws)
  args [] x = tt
  args (w ∷ ws) x = (x.0, args ws x.1)

  pub numbers_args : (ws : List Width) (x : Numbers ws) → numbers ws (args ws x) ≡ x
  numbers_args [] x = refl
  numbers_args (w ∷ ws) x = ap (λ (y : Numbers ws). (x.0, y)) (numbers_args ws x.1)

  -- their machine values, each apart, and in a row
  abbrev pub spells : (ws : List Width) → Spells (rows ws)
  spells [] = tt
  spells (w ∷ ws) = (uint_vals w, spells ws)

  abbrev pub tells : (ws : List Width) → Tellss (rows ws) (Ises (rows ws)) (spells ws)
  tells [] = tt
  tells (w ∷ ws) = (uint_Tells w, tells ws)

  abbrev pub vals : (ws : List Width) → Denots (rows ws) → Valss (rows ws)
  vals ws a = valss (rows ws) (spells ws) a

  abbrev pub machine : (ws : List Width) → Denots (rows ws) → List Val
  machine ws a = flat (rows ws) (vals ws a)

  -- each fits its width
  abbrev pub Fit : (ws : List Width) → Denots (rows ws) → Type 0
  Fit ws a = Are (rows ws) (Ises (rows ws)) a (vals ws a)

  -- what is had of them at exit
  abbrev pub lasts : (ws : List Width) (a : Denots (rows ws)) → Fins κs (slots n ws) (all yes (slots n ws)) a
  lasts [] a = tt
  lasts (w ∷ ws) a = (tt, lasts ws a.1)

  abbrev pub had : (ws : List Width) → Denots (rows ws) → Fml
  had ws a = has_of κs (slots n ws) (all yes (slots n ws)) (stays n ws) a (lasts ws a) (vals ws a)

  pub stays_fit : (ws : List Width) (a : Denots (rows ws)) → fits_of κs (slots n ws) (all yes (slots n ws)) (stays n ws) a (lasts ws a)
  stays_fit [] a = tt
  stays_fit (w ∷ ws) a = (tt, stays_fit ws a.1)

-- ---- passed on to a function of m lifetimes, they have the same machine values, and fit
module _ (n : ℕ) (κs : Lfts n) (m : ℕ) (μs : Lfts m) where
  abbrev pub on : (ws : List Width) → Denots (rows n κs ws) → Denots (rows m μs ws)
  on ws a = args m μs ws (numbers n κs ws a)

  pub machine_on : (ws : List Width) (a : Denots (rows n κs ws)) → machine n κs ws a ≡ machine m μs ws (on ws a)
  machine_on [] a = refl
  machine_on (w ∷ ws) a = ap (λ (vs : List Val). vint w a.0 ∷ vs) (machine_on ws a.1)

  pub fit_on : (ws : List Width) (a : Denots (rows n κs ws)) → Fit n κs ws a → Fit m μs ws (on ws a)
  fit_on [] a fit = tt
  fit_on (w ∷ ws) a fit = (fit.0, fit_on ws a.1 fit.1)

-- ---- what is owned of them is had for nothing
module _ {M : Type 1} {𝓤 : Ura M} (𝓛 : Logic 𝓤) (n : ℕ) where
  pub go_away : (ws : List Width) → AllGo 𝓛 n (slots n ws) (all yes (slots n ws)) (stays n ws)
  go_away [] = tt
  go_away (w ∷ ws) = (Goes-dropped 𝓛 n (plain (λ _. UInt w)) yes (λ κs x f. refl), go_away ws)

  module _ (κs : Lfts n) where
    pub typed : (ws : List Width) (a : Denots (rows n κs ws)) → Fit n κs ws a → Typed (ints ws) (machine n κs ws a)
    typed [] a fit = tt
    typed (w ∷ ws) a fit = (((uint_Lawful 𝓛 w).typed a.0 _ fit.0).0, typed ws a.1 fit.1)

    makes : (ws : List Width) → Makess 𝓛 (rows n κs ws) (Ises (rows n κs ws))
    makes [] = tt
    makes (w ∷ ws) = (uint_Makes 𝓛 w, makes ws)

    pub owned_all : (ws : List Width) (a : Denots (rows n κs ws)) → Fit n κs ws a → ent 𝓤 (emp 𝓤) (sem 𝓛 (owns (rows n κs ws) a (vals n κs ws a)))
    owned_all ws a fit = owns_make 𝓛 (rows n κs ws) (Ises (rows n κs ws)) (makes ws) a (vals n κs ws a) fit

    pub gone : (ws : List Width) (a : Denots (rows n κs ws)) → ent 𝓤 (emp 𝓤) (sem 𝓛 (had n κs ws a))
    gone [] a = id⊢ 𝓤 (emp 𝓤)
    gone (w ∷ ws) a = qed 𝓛 [] ∵ use0 𝓛 (‵ (had n κs ws a.1)) (gone ws a.1) $ nothing ! $ fjoin ! $ done !

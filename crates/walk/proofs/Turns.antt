-- What a turn of a `while` is to come to: the loop's next turn, at a state that is nearer to the end, or the loop is
-- left and the rest of the function runs.
use mathlib.Core.List.{List}
use seplogic.Ra.Ura.{Ura}
use mir.Syntax.{Body}
use mir.Val.{Val}
use base.Logic.{SProp}
use prog.Wp.{Out, Env, Wp, Tables, at_return, after_turn, after_block, after_seq}
use types.Logic.{Logic}
use types.Kit.{Item}
use types.Run.{Below}

module _ {M : Type 1} {𝓤 : Ura M} (𝓛 : Logic 𝓤) (𝓣 : Tables 𝓤 𝓛.H) (E : Env 𝓤 𝓛.H) (rest : Body) (exit : Val → SProp 𝓤) where
  open 𝓛 use {H}

  abbrev pub Turned : {S : Type 0} → (S → S → Type 0) → (S → List (Item 𝓤)) → S → Out → SProp 𝓤
  Turned nearer at s =
      after_turn 𝓤 H (Below 𝓛 nearer at s) (after_block 𝓤 H (after_seq 𝓤 H (Wp 𝓤 H 𝓣.C 𝓣.Λ E rest (at_return 𝓤 H E exit)) (at_return 𝓤 H E exit)))

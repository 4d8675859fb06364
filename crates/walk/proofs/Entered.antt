-- From the walk of a function's MIR, over the tables of the functions that it calls, to the theorem about the function.
use mathlib.Core.Path.{◌≡◌}
use seplogic.Ra.Ura.{Ura}
use mir.Syntax.{Fn}
use prog.Model.{Model}
use prog.Routine.{Callee, Routine, Env}
use prog.Wp.{Heap, WpFn, Closed}
use contract.Running.{Running, tables}
use denote.Triple.Statement.{Contract, Triple}
use denote.Triple.Table.{entered, cited}

module _ {M : Type 1} (𝓤 : Ura M) (H : Heap 𝓤) (𝓜 : Model 𝓤 H) (𝓡 : Running 𝓤 H 𝓜) (γ : Env) (c : Contract 𝓤) (k : Callee) where
  -- the function that is called as k, whose MIR is e
  pub proves : (e : Fn) → Closed 𝓤 H (tables 𝓤 H 𝓜 𝓡 γ).C (tables 𝓤 H 𝓜 𝓡 γ).Λ k e → Triple 𝓤 (WpFn 𝓤 H (tables 𝓤 H 𝓜 𝓡 γ).C (tables 𝓤 H 𝓜 𝓡 γ).Λ e) c
      → Triple 𝓤 ((tables 𝓤 H 𝓜 𝓡 γ).C k) c
  proves e closed walked = entered 𝓤 H c (tables 𝓤 H 𝓜 𝓡 γ).C (tables 𝓤 H 𝓜 𝓡 γ).Λ k e closed walked

  -- a function that it calls as k, which was proved
  pub cites : {r : Routine} → γ k ≡ r → Triple 𝓤 (𝓡.run r) c → Triple 𝓤 ((tables 𝓤 H 𝓜 𝓡 γ).C k) c
  cites {r} is met = cited 𝓤 H c 𝓜 𝓡 γ k r is met

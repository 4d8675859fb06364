-- A message as it is read, and the step that it is.
use Rattle.book.specs.Steps.{Step}
use Rattle.schedule.specs.declared.Message.{Message}

abbrev pub step_of : Message → Step
step_of m = record { code = m.code; a = m.a; b = m.b }

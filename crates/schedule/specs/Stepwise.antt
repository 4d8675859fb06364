-- The steps as an iterator gives them: what it has left, by how many bytes it goes, and what it leaves at the end.
use Rattle.std.specs.Prelude.{◌≡◌, List, ℕ, ◌+◌, ◌*◌, drop}
use Rattle.std.specs.declared.slice.ChunksExact.{ChunksExact}
use Rattle.std.specs.Slice.Iter.{chunks_exact_rest, chunks_exact_size, chunks_exact_remainder}
use Rattle.schedule.specs.Bytes.{header_bytes, step_bytes, whole_steps}

pub record Stepwise (bs : List ℕ) (steps : ChunksExact ℕ) : Type 0 where
  pub rest : chunks_exact_rest steps ≡ drop header_bytes bs
  pub size : chunks_exact_size steps ≡ step_bytes
  pub cut : chunks_exact_remainder steps ≡ drop (header_bytes + step_bytes * whole_steps bs) bs

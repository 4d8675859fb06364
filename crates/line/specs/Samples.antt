-- Sample lines, written out, and how to replace one number of a line: what the cases are computed on. The numbers of a
-- sample are as a run leaves them, and small: `fresh`, `started` and `middle` are reached from opening (WayCases).
use Rattle.std.specs.Prelude.{List, [], ◌∷◌, ◌++◌, map, ℕ, ◌-◌, length, get_or, set, replicate}
use Rattle.book.specs.Sizes.{Size}
use Rattle.book.specs.Steps.{Desk, idle, looked, holding, claimed_at, with_fetched}
use Rattle.line.specs.Line.{Line, Block, LentDesk, Spot, numbers_of, put_at, get_at, unused, with_head}

-- ---- lines written out

abbrev pub size : ℕ → ℕ → ℕ → Size
size nb ne t = record { nb = nb; ne = ne; t = t }

abbrev pub spot : ℕ → ℕ → Spot
spot t q = record { turn = t; place = q }

-- a desk that holds spot s
abbrev pub claimed : Spot → Desk Spot
claimed s = holding (claimed_at s)

abbrev pub fetched : Spot → Desk Spot
fetched s = holding (with_fetched (claimed_at s))

-- a record by its round, written, claimed and finished
abbrev pub block : ℕ → ℕ → ℕ → ℕ → Block
block r w c f = record { round = r; written = w; claimed = c; finished = f }

-- the first of the sixteen desks; the others are idle
abbrev pub sixteen : List (Desk Spot) → List LentDesk
sixteen ds = map numbers_of ds ++ replicate (16 - length ds) (numbers_of idle)

-- nothing is placed
abbrev pub fresh : Line
fresh = record {
  head = record { nb = 2; ne = 2; t = 2; reading = 0; p = 0; k = 0; desks = sixteen [] };
  table = unused ∷ unused ∷ [];
  entries = 0 ∷ 0 ∷ 0 ∷ 0 ∷ [];
}

-- three labels are placed and one is got: turns 0 and 1 stand in blocks 0 and 1, and block 2 is unused
abbrev pub started : Line
started = record {
  head = record { nb = 3; ne = 2; t = 2; reading = 1; p = 1; k = 0; desks = sixteen [] };
  table = block 0 2 0 0 ∷ block 0 1 0 0 ∷ unused ∷ [];
  entries = 1 ∷ 2 ∷ 3 ∷ 0 ∷ 0 ∷ 0 ∷ [];
}

-- Turn 2 stands in block 0: full, owned and read, two labels claimed, one of them not finished. Turn 3 stands in block 1:
-- two labels, one claimed. Desk 1 has looked at turn 3, and desk 3 at turn 1, which stood in block 1 before.
abbrev pub middle : Line
middle = record {
  head = record {
    nb = 2;
    ne = 3;
    t = 4;
    reading = 3;
    p = 3;
    k = 2;
    desks = sixteen (claimed (spot 3 0) ∷ looked (spot 3 1) ∷ fetched (spot 2 1) ∷ looked (spot 1 0) ∷ []);
  };
  table = block 1 3 2 1 ∷ block 1 2 1 0 ∷ [];
  entries = 7 ∷ 8 ∷ 9 ∷ 10 ∷ 11 ∷ 6 ∷ [];
}

-- NE 1: turns P - 1 and P are full, and turn K is read; the rounds are those of blocks 0 and 1
abbrev pub read : ℕ → ℕ → ℕ → ℕ → Line
read p k round0 round1 = record {
  head = record { nb = 2; ne = 1; t = 1; reading = 1; p = p; k = k; desks = sixteen [] };
  table = block round0 1 0 0 ∷ block round1 1 0 0 ∷ [];
  entries = 8 ∷ 9 ∷ [];
}

-- the four labels of turn 1 are claimed, by these of the T desks
abbrev pub held : ℕ → List (Desk Spot) → Line
held t ds = record {
  head = record { nb = 2; ne = 4; t = t; reading = 0; p = 1; k = 0; desks = sixteen ds };
  table = block 0 4 0 0 ∷ block 0 4 4 0 ∷ [];
  entries = 1 ∷ 2 ∷ 3 ∷ 4 ∷ 5 ∷ 6 ∷ 7 ∷ 8 ∷ [];
}

abbrev pub won : ℕ → Desk Spot
won q = claimed (spot 1 q)

abbrev pub took : ℕ → Desk Spot
took q = fetched (spot 1 q)

-- four of sixteen desks hold them: the first and the last three, the very last being this one
abbrev pub ends : Desk Spot → Line
ends x = held 16 (won 0 ∷ replicate 12 idle ++ (won 1 ∷ won 2 ∷ x ∷ []))

-- turn 0 is read, turn 1 all claimed, and of the one label of turn 2 so many are claimed
abbrev pub stolen : ℕ → Line
stolen n = record {
  head = record { nb = 3; ne = 2; t = 2; reading = 2; p = 2; k = 0; desks = sixteen [] };
  table = block 0 2 0 0 ∷ block 0 2 2 2 ∷ block 0 1 n n ∷ [];
  entries = 1 ∷ 2 ∷ 3 ∷ 4 ∷ 5 ∷ 0 ∷ [];
}

-- turns 2 to 6 stand in blocks 2, 3, 4, 0 and 1; turn 5 is all claimed
abbrev pub five : ℕ → Line
five k = record {
  head = record { nb = 5; ne = 2; t = 2; reading = 1; p = 6; k = k; desks = sixteen (looked (spot 5 1) ∷ []) };
  table = block 1 2 2 2 ∷ block 1 2 1 1 ∷ block 0 2 0 0 ∷ block 0 2 1 1 ∷ block 0 2 0 0 ∷ [];
  entries = replicate 10 4;
}

-- ---- one number of a line replaced

abbrev pub with_p : ℕ → Line → Line
with_p n l = with_head l (put_at l.head n)

abbrev pub with_k : ℕ → Line → Line
with_k n l = with_head l (get_at l.head (spot n l.head.reading))

abbrev pub with_reading : ℕ → Line → Line
with_reading n l = with_head l (get_at l.head (spot l.head.k n))

abbrev pub on_desk : ℕ → (LentDesk → LentDesk) → Line → Line
on_desk d f l = record l { head = record l.head { desks = set l.head.desks d (f (get_or l.head.desks d (numbers_of idle))) } }

abbrev pub with_desk : ℕ → Desk Spot → Line → Line
with_desk d x = on_desk d (λ _. numbers_of x)

abbrev pub with_stage : ℕ → ℕ → Line → Line
with_stage d n = on_desk d (λ x. record x { stage = n })

abbrev pub with_turn : ℕ → ℕ → Line → Line
with_turn d n = on_desk d (λ x. record x { turn = n })

abbrev pub with_place : ℕ → ℕ → Line → Line
with_place d n = on_desk d (λ x. record x { place = n })

abbrev pub on_block : ℕ → (Block → Block) → Line → Line
on_block i f l = record l { table = set l.table i (f (get_or l.table i unused)) }

abbrev pub with_round : ℕ → ℕ → Line → Line
with_round i n = on_block i (λ c. block n c.written c.claimed c.finished)

abbrev pub with_written : ℕ → ℕ → Line → Line
with_written i n = on_block i (λ c. block c.round n c.claimed c.finished)

abbrev pub with_claimed : ℕ → ℕ → Line → Line
with_claimed i n = on_block i (λ c. block c.round c.written n c.finished)

abbrev pub with_finished : ℕ → ℕ → Line → Line
with_finished i n = on_block i (λ c. block c.round c.written c.claimed n)

abbrev pub with_entry : ℕ → ℕ → Line → Line
with_entry i a l = record l { entries = set l.entries i a }

-- the same head with so many records, all unused, and so many entries
abbrev pub lengths : ℕ → ℕ → Line → Line
lengths m n l = record { head = l.head; table = replicate m unused; entries = replicate n 0 }

abbrev pub short : Line
short = lengths 1 4 fresh

-- In an arm the answer is known, and its word computes.
use Rattle.words.proofs.word.Goals as goal

pub returns-in-Put : goal.returns-in-Put
returns-in-Put c = rw c.in-Put.is

pub returns-in-Got : goal.returns-in-Got
returns-in-Got c = rw c.in-Got.is

pub returns-in-Took : goal.returns-in-Took
returns-in-Took c = rw c.in-Took.is

pub returns-in-Whole : goal.returns-in-Whole
returns-in-Whole c = rw c.in-Whole.is

pub returns-in-Seen : goal.returns-in-Seen
returns-in-Seen c = rw c.in-Seen.is

pub returns-in-Claimed : goal.returns-in-Claimed
returns-in-Claimed c = rw c.in-Claimed.is

pub returns-in-Done : goal.returns-in-Done
returns-in-Done c = rw c.in-Done.is

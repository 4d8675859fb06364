-- In an arm the refusal is known, and its word computes.
use Rattle.words.proofs.refusal_word.Goals as goal

pub returns-in-Unfit : goal.returns-in-Unfit
returns-in-Unfit c = rw c.in-Unfit.is

pub returns-in-Damaged : goal.returns-in-Damaged
returns-in-Damaged c = rw c.in-Damaged.is

pub returns-in-Badstep : goal.returns-in-Badstep
returns-in-Badstep c = rw c.in-Badstep.is

pub returns-in-Nodesk : goal.returns-in-Nodesk
returns-in-Nodesk c = rw c.in-Nodesk.is

pub returns-in-Noblock : goal.returns-in-Noblock
returns-in-Noblock c = rw c.in-Noblock.is

pub returns-in-Stage : goal.returns-in-Stage
returns-in-Stage c = rw c.in-Stage.is

pub returns-in-Owned : goal.returns-in-Owned
returns-in-Owned c = rw c.in-Owned.is

pub returns-in-Nothing : goal.returns-in-Nothing
returns-in-Nothing c = rw c.in-Nothing.is

pub returns-in-Lost : goal.returns-in-Lost
returns-in-Lost c = rw c.in-Lost.is

pub returns-in-Notlabel : goal.returns-in-Notlabel
returns-in-Notlabel c = rw c.in-Notlabel.is

pub returns-in-Range : goal.returns-in-Range
returns-in-Range c = rw c.in-Range.is

pub returns-in-Worn : goal.returns-in-Worn
returns-in-Worn c = rw c.in-Worn.is

pub returns-in-Full : goal.returns-in-Full
returns-in-Full c = rw c.in-Full.is

pub returns-in-Busy : goal.returns-in-Busy
returns-in-Busy c = rw c.in-Busy.is

pub returns-in-Empty : goal.returns-in-Empty
returns-in-Empty c = rw c.in-Empty.is

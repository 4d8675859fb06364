-- In an arm what was wanted is known, and its text computes.
use Rattle.text.proofs.wanted.Wanted.told.Goals as goal

pub returns-in-Size : goal.returns-in-Size
returns-in-Size c = rw c.in-Size.is

pub returns-in-Put : goal.returns-in-Put
returns-in-Put c = rw c.in-Put.is

pub returns-in-Get : goal.returns-in-Get
returns-in-Get c = rw c.in-Get.is

pub returns-in-Order : goal.returns-in-Order
returns-in-Order c = rw c.in-Order.is

pub returns-in-Look : goal.returns-in-Look
returns-in-Look c = rw c.in-Look.is

pub returns-in-Claim : goal.returns-in-Claim
returns-in-Claim c = rw c.in-Claim.is

pub returns-in-Fetch : goal.returns-in-Fetch
returns-in-Fetch c = rw c.in-Fetch.is

pub returns-in-Finish : goal.returns-in-Finish
returns-in-Finish c = rw c.in-Finish.is

pub returns-in-Step : goal.returns-in-Step
returns-in-Step c = rw c.in-Step.is

pub returns-in-Bytes : goal.returns-in-Bytes
returns-in-Bytes c = rw c.in-Bytes.is

pub returns-in-Times : goal.returns-in-Times
returns-in-Times c = rw c.in-Times.is

pub returns-in-Name : goal.returns-in-Name
returns-in-Name c = rw c.in-Name.is

pub returns-in-Line : goal.returns-in-Line
returns-in-Line c = rw c.in-Line.is

pub returns-in-Room : goal.returns-in-Room
returns-in-Room c = rw c.in-Room.is

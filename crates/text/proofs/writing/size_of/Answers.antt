-- By the item.
use Rattle.std.proofs.Common.{◌≡◌, ℕ, List, length, ◌+◌, sym, ap, ◌∙◌, arith}
use Rattle.text.specs.declared.items.Item.{Item}
use Rattle.text.specs.declared.items.Item.TheVariants.{Nothing, Header, Steps, Numbers, Named}
use Rattle.text.specs.Pieces.{words}
use Rattle.text.specs.Meaning.{said}
use Rattle.text.proofs.Bytes.{said_nothing, said_header, room_steps, room_numbers, room_named, numbers_short, name_short}
use Rattle.text.proofs.writing.size_of.Goals as goal

by : (l : List ℕ) (i j : Item) (n : ℕ) → i ≡ j → n ≡ length (said l 0 j) → n ≡ length (said l 0 i)
by l i j n e f = f ∙ ap (λ (x : Item). length (said l 0 x)) (sym e)

pub returns-in-Nothing-clause-is : goal.returns-in-Nothing-clause-is
returns-in-Nothing-clause-is c = by _ _ Nothing 0 c.in-Nothing.is (sym (ap length (said_nothing c.args.line.now 0)))

pub returns-in-Header-clause-is : goal.returns-in-Header-clause-is
returns-in-Header-clause-is c = by _ _ (Header _ _ _) 8 c.in-Header.is (sym (ap length (said_header c.args.line.now 0 _ _ _)))

pub returns-in-Steps-clause-is : goal.returns-in-Steps-clause-is
returns-in-Steps-clause-is c = by _ _ (Steps _ _ _ _) _ c.in-Steps.is (sym (room_steps c.args.line.now 0 _ _ _ _))

pub returns-in-Numbers-clause-is : goal.returns-in-Numbers-clause-is
returns-in-Numbers-clause-is c =
    let l = c.args.line.now in
    by _ _ Numbers _ c.in-Numbers.is
    (c.count_words.ensures ∙ ap (λ (x : List ℕ). length (words x)) c.first_word.ensures.behind ∙ sym (room_numbers l 0))

pub returns-in-Numbers-clause-most : goal.returns-in-Numbers-clause-most
returns-in-Numbers-clause-most c =
    let l = c.args.line.now in
    let n = c.count_words.ensures ∙ ap (λ (x : List ℕ). length (words x)) c.first_word.ensures.behind in
    omega (arith, numbers_short l)

pub returns-in-Named-clause-is : goal.returns-in-Named-clause-is
returns-in-Named-clause-is c =
    let l = c.args.line.now in
    by _ _ Named _ c.in-Named.is (ap (λ (x : List ℕ). length x + 5) c.name_of.ensures ∙ sym (room_named l 0))

pub returns-in-Named-clause-most : goal.returns-in-Named-clause-most
returns-in-Named-clause-most c = let n = ap length c.name_of.ensures in omega (arith, name_short c.args.line.now)

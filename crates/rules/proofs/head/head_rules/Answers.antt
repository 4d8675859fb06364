-- Rules 2 and 3 are asked over the records of the turns' blocks.
use Rattle.std.proofs.Common.{◌≡◌, Bool, true, List, ℕ, ◌*◌, ◌%◌, ltb, get_or, ap, sym, ◌∙◌}
use Rattle.book.proofs.Choice.{and_first, T→true}
use Rattle.line.specs.declared.Block.{Block}
use Rattle.line.specs.declared.Head.{Head}
use Rattle.line.specs.Line.{unused, size_of, record_of}
use Rattle.line.specs.Tests.{is_recent, obeys1, obeys2}
use Rattle.ring.specs.declared.Ring.{Ring}
use Rattle.rules.proofs.head.head_rules.Goals as goal

-- what rule 1 said of the ring it said of the head
one : (h : Head) (ring : Ring) (a : Bool) → (ring.nb ≡ h.nb) × (ring.p ≡ h.p) → a ≡ obeys1 ring.nb ring.p h.k → obeys1 h.nb h.p h.k ≡ a
one h ring a same e = sym (rw (same.0, same.1) at e)

-- turn K is current by rule 1, so that the record read is that of its block
two : (h : Head) (tb : List Block) (ring : Ring) (i : ℕ) (b : Bool) → (ring.nb ≡ h.nb) × (ring.p ≡ h.p) → obeys1 h.nb h.p h.k ≡ true
    → (is_recent ring.nb ring.p h.k ≡ true → i ≡ h.k % ring.nb) → b ≡ obeys2 (get_or tb i unused) h.reading
    → obeys2 (record_of (size_of h) tb h.k) h.reading ≡ b
unfolding record_of
two h tb ring i b same first k e =
    let recent : is_recent h.nb h.p h.k ≡ true = T→true _ (and_first (is_recent h.nb h.p h.k) (ltb h.p (65536 * h.nb)) (rw first tt)) in
    let stands : i ≡ h.k % h.nb = rw same.0 at (k (rw (same.0, same.1) recent)) in
    ap (λ (n : ℕ). obeys2 (get_or tb n unused) h.reading) (sym stands) ∙ sym e

pub returns-then-not-rule2 : goal.returns-then-not-rule2
returns-then-not-rule2 c =
    let h = c.args.h.now in
    let first = one h c.args.ring _ c.requires c.rule1.ensures ∙ c.if-not-rule1.false in
    rw (first, two h c.args.table.now c.args.ring _ _ c.requires first c.current_block.ensures.1 c.rule2.ensures ∙ c.if-not-rule2.true)

pub returns-then-not-rule3 : goal.returns-then-not-rule3
returns-then-not-rule3 c =
    let h = c.args.h.now in
    let first = one h c.args.ring _ c.requires c.rule1.ensures ∙ c.if-not-rule1.false in
    rw (first, two h c.args.table.now c.args.ring _ _ c.requires first c.current_block.ensures.1 c.rule2.ensures ∙ c.if-not-rule2.false, sym c.rule3.ensures ∙ c.if-not-rule3.true)

pub returns : goal.returns
returns c =
    let h = c.args.h.now in
    let first = one h c.args.ring _ c.requires c.rule1.ensures ∙ c.if-not-rule1.false in
    rw (first, two h c.args.table.now c.args.ring _ _ c.requires first c.current_block.ensures.1 c.rule2.ensures ∙ c.if-not-rule2.false, sym c.rule3.ensures ∙ c.if-not-rule3.false)

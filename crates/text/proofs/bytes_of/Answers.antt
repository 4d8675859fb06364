-- The bytes are made in a room of their own, and copied where the text is not refused.
use Rattle.std.proofs.Common.{◌≡◌, ◌≤◌, refl, arith, sym, ap, ◌∙◌, rules, length, length-take-le}
use Rattle.std.proofs.lemmas.Result.{err_from_is_err_and}
use Rattle.text.specs.Meaning.{Meaning, outcome}
use Rattle.text.proofs.Whole.{long_text, short_text, made_within, made_outcome, bad_outcome}
use Rattle.text.proofs.bytes_of.Goals as goal
use Rattle.text.proofs.bytes_of.Goals.{In_ok-fill}

pub returns-then-text-gt-ROOM : goal.returns-then-text-gt-ROOM
returns-then-text-gt-ROOM c = long_text _ _ c.if-text-gt-ROOM.true

pub fill-requires : goal.fill-requires
fill-requires c = (c.if-text-gt-ROOM.false, c.new-page.ensures.none, ap length c.new-page.ensures.lent ∙ search rules)

pub returns-in_err-fill : goal.returns-in_err-fill
returns-in_err-fill c =
    let p = err_from_is_err_and c.from_residual.result c.from_residual.ensures.1 in
    rw (p.1, p.2)
    (bad_outcome _ _ c.new-page.ensures.none _ _ c.in_err-fill.ensures _
    ∙ ap (λ (x : Meaning). outcome x c.args.out.now) (sym (short_text _ c.if-text-gt-ROOM.false)))

-- what was made has room
in_room : (c : In_ok-fill) → c.fill.new.page.len ≤ 262144
in_room c =
    let within = made_within _ _ c.new-page.ensures.none _ c.in_ok-fill.ensures in
    let long : length c.new-page.result.room.now ≡ 262144 = ap length c.new-page.ensures.lent ∙ search rules in
    omega (arith, within.1)

pub slice_bounds-copy_from_slice-end : goal.slice_bounds-copy_from_slice-end
slice_bounds-copy_from_slice-end c = let fits = in_room c in search rules

pub slice_bounds-copy_from_slice-end-3 : goal.slice_bounds-copy_from_slice-end-3
slice_bounds-copy_from_slice-end-3 c =
    let within = made_within _ _ c.new-page.ensures.none _ c.in_ok-fill.ensures in
    sym (length-take-le _ _ within.0)

pub copy_from_slice-requires : goal.copy_from_slice-requires
copy_from_slice-requires c =
    let within = made_within _ _ c.new-page.ensures.none _ c.in_ok-fill.ensures in
    let long : length c.new-page.result.room.now ≡ 262144 = ap length c.new-page.ensures.lent ∙ search rules in
    let out : length c.args.out.now ≡ 262144 = search rules in
    let fits : c.fill.new.page.len ≤ length c.args.out.now = omega (arith, within.1) in
    length-take-le _ _ fits ∙ sym (length-take-le _ _ within.0)

pub returns : goal.returns
returns c =
    made_outcome _ _ c.new-page.ensures.none _ c.in_ok-fill.ensures _ _
    (rw c.copy_from_slice.ensures.after refl)
    ∙ ap (λ (x : Meaning). outcome x c.args.out.now) (sym (short_text _ c.if-text-gt-ROOM.false))

-- Bytes stored one behind the other: two runs of stores are one, and a run of stores from place 0 is a front.
use Rattle.std.proofs.Common.{◌≡◌, ℕ, suc, ◌+◌, ◌-◌, ◌<◌, ◌≤◌, List, [], ◌∷◌, ◌++◌, length, take, drop, set, sym, refl, ap, ◌∙◌, subst, ap₂, add-zero, zero-add, arith, length-append}
use Rattle.std.proofs.Math.Seq.{sets, sets-eq, length-sets, take-length}
use borrow.Rule.Slice.PartMut.{put_mid}
use Rattle.std.proofs.lemmas.Slice.{put_mid-paste}
use Rattle.printing.specs.Writes.{Writes}
use Rattle.printing.specs.Page.{Page, HasRoom, Wrote}

sets_append : (o : List ℕ) (at : ℕ) (xs ys : List ℕ) → sets o at (xs ++ ys) ≡ sets (sets o at xs) (at + length xs) ys
sets_append o at [] ys = rw (add-zero at)
sets_append o at (x ∷ xs) ys =
    let e : suc at + length xs ≡ at + suc (length xs) = omega arith in
    sets_append (set o at x) (suc at) xs ys ∙ ap (λ (n : ℕ). sets (sets (set o at x) (suc at) xs) n ys) e

pub writes_length : (at r : ℕ) (xs o after : List ℕ) → Writes at xs o r after → length after ≡ length o
writes_length at r xs o after w = ap length w.bytes ∙ length-sets o at xs

-- what is written behind what was written
pub writes_more : (at p q : ℕ) (xs ys o o₁ o₂ : List ℕ) → Writes at xs o p o₁ → Writes p ys o₁ q o₂ → Writes at (xs ++ ys) o q o₂
writes_more at p q xs ys o o₁ o₂ w v =
    let e = length-append xs ys in let k = writes_length at p xs o o₁ w in
    record {
      room = subst (λ (n : ℕ). q ≤ n) k v.room;
      answer = let a = w.answer in let b = v.answer in omega arith;
      bytes = v.bytes ∙ ap₂ (λ (l : List ℕ) (n : ℕ). sets l n ys) w.bytes w.answer ∙ sym (sets_append o at xs ys);
    }

pub writes_none : (at : ℕ) (o : List ℕ) → at ≤ length o → Writes at [] o at o
writes_none at o h = record { room = h; answer = sym (add-zero at); bytes = refl }

pub writes_one : (at b : ℕ) (o : List ℕ) → at < length o → Writes at (b ∷ []) o (at + 1) (set o at b)
writes_one at b o h = record { room = omega arith; answer = refl; bytes = refl }

-- k bounds what was written: where it ends, and what room is left behind it
pub writes_most : (at k r : ℕ) (xs o after : List ℕ) → length xs ≤ k → Writes at xs o r after → r ≤ at + k
writes_most at k r xs o after h w = let a = w.answer in omega arith

pub writes_left : (at k j r : ℕ) (xs o after : List ℕ) → length xs ≤ k → at + (k + j) ≤ length o → Writes at xs o r after → r + j ≤ length after
writes_left at k j r xs o after h room w = let e = writes_length at r xs o after w in let m = writes_most at k r xs o after h w in omega arith

-- from place 0 on
pub front : (xs o after : List ℕ) (r : ℕ) → Writes 0 xs o r after → (r ≡ length xs) × (after ≡ xs ++ drop (length xs) o)
front xs o after r w =
    let e : 0 + length xs ≡ length xs = zero-add (length xs) in let a = w.answer in let h = w.room in
    (a ∙ e, w.bytes ∙ sets-eq xs o 0 (omega arith) ∙ ap (λ (n : ℕ). xs ++ drop n o) e)

-- a run of bytes copied into its part of the room
pub copied : (at : ℕ) (xs ys room : List ℕ) → ys ≡ xs → at + length xs ≤ length room → Writes at xs room (at + length xs) (put_mid at (at + length xs - at) room ys)
copied at xs ys room e h = record {
  room = h;
  answer = refl;
  bytes =
      put_mid-paste at (at + length xs - at) room ys xs (length xs) e (omega arith) refl
      ∙ ap (λ (l : List ℕ). take at room ++ l ++ drop (at + length xs) room) (take-length xs)
      ∙ sym (sets-eq xs room at h);
}

-- ---- on a page

pub wrote_none : (p : Page) → p.len ≤ length p.room.now → Wrote [] p p
wrote_none p h = record { same = refl; writes = writes_none p.len p.room.now h }

pub wrote_more : (xs ys : List ℕ) (a b c : Page) → Wrote xs a b → Wrote ys b c → Wrote (xs ++ ys) a c
wrote_more xs ys a b c w v = record {
  same = v.same ∙ w.same;
  writes = writes_more a.len b.len c.len xs ys a.room.now b.room.now c.room.now w.writes v.writes;
}

-- where k bounds what was written, so much room is left
pub wrote_left : (k j : ℕ) (xs : List ℕ) (a b : Page) → length xs ≤ k → HasRoom (k + j) a → Wrote xs a b → HasRoom j b
wrote_left k j xs a b h room w = writes_left a.len k j b.len xs a.room.now b.room.now h room w.writes

pub wrote_most : (k : ℕ) (xs : List ℕ) (a b : Page) → length xs ≤ k → Wrote xs a b → b.len ≤ a.len + k
wrote_most k xs a b h w = writes_most a.len k b.len xs a.room.now b.room.now h w.writes

-- The bytes that the words of a line say, written word by word.
use Rattle.std.proofs.Common.{◌≡◌, refl, sym, ap, subst, ◌∙◌, List, [], ◌∷◌, ◌++◌, append-nil, append_assoc, ℕ, ◌≤◌, length, length-append, arith}
use Rattle.std.specs.Option.{unwrap_or}
use Rattle.std.proofs.lemmas.List.{length-map}
use Rattle.printing.specs.declared.Page.{Page}
use Rattle.printing.specs.Page.{HasRoom, Wrote}
use Rattle.printing.proofs.Stores.{wrote_none, wrote_more, writes_length}
use Rattle.text.specs.Pieces.{byte}
use Rattle.text.specs.Meaning.{word_bytes}

-- the words up to those that are left are written
pub record Noted (all left : List (List ℕ)) (before page : Page) : Type 0 where
  pub done : List (List ℕ)
  pub splits : all ≡ done ++ left
  pub wrote : Wrote (word_bytes done) before page

map_last : (ws : List (List ℕ)) (w : List ℕ) → word_bytes (ws ++ (w ∷ [])) ≡ word_bytes ws ++ (unwrap_or (byte w) 0 ∷ [])
map_last [] w = refl
map_last (v ∷ ws) w = ap (λ (x : List ℕ). unwrap_or (byte v) 0 ∷ x) (map_last ws w)

pub noted_none : (ws : List (List ℕ)) (p : Page) → p.len ≤ length p.room.now → Noted ws ws p p
noted_none ws p h = record { done = []; splits = refl; wrote = wrote_none p h }

module _ (all left : List (List ℕ)) (before page : Page) (g : Noted all left before page) where
  pub noted_end : left ≡ [] → Wrote (word_bytes all) before page
  noted_end e =
      let s : g.done ≡ all = sym (g.splits ∙ ap (λ x. g.done ++ x) e ∙ append-nil g.done) in
      subst (λ x. Wrote (word_bytes x) before page) s g.wrote

  module _ (w : List ℕ) (ws : List (List ℕ)) (l : left ≡ w ∷ ws) where
    pub noted_room : HasRoom (length all) before → HasRoom 1 page
    noted_room room =
        let a = g.wrote.writes.answer in let b = length-map g.done (λ v. unwrap_or (byte v) 0) in
        let c = ap length (g.splits ∙ ap (λ x. g.done ++ x) l) in let d = length-append g.done (w ∷ ws) in
        let e = writes_length _ _ _ _ _ g.wrote.writes in
        omega arith

    pub noted_more : (n : ℕ) (next : Page) → n ≡ unwrap_or (byte w) 0 → Wrote (n ∷ []) page next → Noted all ws before next
    noted_more n next e v = record {
      done = g.done ++ (w ∷ []);
      splits = g.splits ∙ ap (λ x. g.done ++ x) l ∙ sym (append_assoc g.done (w ∷ []) ws);
      wrote =
          rw (map_last g.done w)
          (wrote_more (word_bytes g.done) (unwrap_or (byte w) 0 ∷ []) before page next g.wrote (subst (λ x. Wrote (x ∷ []) page next) e v));
    }

-- The tokens of a draft, counted and written one after another. Assumes nothing.
use Rattle.std.proofs.Common.{◌≡◌, ℕ, ◌+◌, Bool, List, ◌++◌, map, length, replicate, ap, ◌∙◌, arith, length-append}
use lib.LanesLaws.{map-replicate}
use lib.ListN.{length-replicate}
use mir.Val.{bool_byte}
use Rattle.std.proofs.lemmas.List.{append_assoc, map-append}
use Rattle.layout.specs.Drafts.{if_set, tokens_of}
use Rattle.layout.specs.Marks.{inserted}
use Rattle.layout.specs.declared.draft.Draft.{Draft}
use Rattle.layout.specs.declared.rule.Coming.{Coming}

-- a token or none, by its count
pub flag_count : (b : Bool) (k : ℕ) → if_set b k ≡ replicate (bool_byte b) k
flag_count a b = grind arith

-- how many tokens a draft inserts
pub count_tokens : (d : Draft) → length (tokens_of d) ≡ bool_byte d.brace + d.closes + bool_byte d.separator + d.closes_after
count_tokens d =
    let x : List ℕ = if_set d.brace 3 in
    let y : List ℕ = replicate d.closes 4 in
    let z : List ℕ = if_set d.separator 5 in
    let w : List ℕ = replicate d.closes_after 4 in
    omega (
      arith,
      length-append x (y ++ (z ++ w)),
      length-append y (z ++ w),
      length-append z w,
      length-replicate {A = ℕ} d.closes 4,
      length-replicate {A = ℕ} d.closes_after 4,
      ap length (flag_count d.brace 3),
      ap length (flag_count d.separator 5),
      length-replicate {A = ℕ} (bool_byte d.brace) 3,
      length-replicate {A = ℕ} (bool_byte d.separator) 5,
    )

-- the tokens that a draft inserts, part by part
pub inserted_parts : (c : Coming) (d : Draft) → map (inserted c) (tokens_of d) ≡ replicate (bool_byte d.brace) (inserted c 3) ++ (replicate d.closes (inserted c 4) ++ (replicate (bool_byte d.separator) (inserted c 5) ++ replicate d.closes_after (inserted c 4)))
inserted_parts c d =
    let f = inserted c in
    ap (map f) (λ i. flag_count d.brace 3 i ++ (replicate d.closes 4 ++ (flag_count d.separator 5 i ++ replicate d.closes_after 4)))
    ∙ map-append f (replicate (bool_byte d.brace) 3) _
    ∙ (λ i. map-replicate f (bool_byte d.brace) 3 i ++ map-append f (replicate d.closes 4) (replicate (bool_byte d.separator) 5 ++ replicate d.closes_after 4) i)
    ∙ (λ i. replicate (bool_byte d.brace) (f 3) ++ (map-replicate f d.closes 4 i ++ map-append f (replicate (bool_byte d.separator) 5) (replicate d.closes_after 4) i))
    ∙ (λ i. replicate (bool_byte d.brace) (f 3) ++ (replicate d.closes (f 4) ++ (map-replicate f (bool_byte d.separator) 5 i ++ map-replicate f d.closes_after 4 i)))

-- four lists one behind another
pub four_behind : {T : Type 0} (w a b c d w₁ w₂ w₃ w₄ : List T) → w₁ ≡ w ++ a → w₂ ≡ w₁ ++ b → w₃ ≡ w₂ ++ c → w₄ ≡ w₃ ++ d → w₄ ≡ w ++ (a ++ (b ++ (c ++ d)))
four_behind w a b c d w₁ w₂ w₃ w₄ e₁ e₂ e₃ e₄ =
    e₄ ∙ ap (λ x. x ++ d) (e₃ ∙ ap (λ x. x ++ c) (e₂ ∙ ap (λ x. x ++ b) e₁))
    ∙ append_assoc ((w ++ a) ++ b) c d ∙ append_assoc (w ++ a) b (c ++ d) ∙ append_assoc w a (b ++ (c ++ d))

-- Bytes written into a buffer, one part after the other.
use Rattle.std.proofs.Common.{◌≡◌, ℕ, ◌+◌, ◌≤◌, List, ◌++◌, length, take, drop, sym, ap, ◌∙◌, append_assoc, add_assoc, arith, length-append, length-drop, length-take, drop-drop, take_at, drop_at}
use lib.Seq.{take-append_seam}
use borrow.Rule.Slice.PartMut.{put_mid}
use Rattle.model.specs.Buffers.{laid}

module _ {A : Type 0} where
  front_length : (b : List A) (i : ℕ) → i ≤ length b → length (take i b) ≡ i
  front_length b i h = simp length-take (omega arith)

  pub laid_length : (b xs : List A) (i : ℕ) → i + length xs ≤ length b → length (laid i xs b) ≡ length b
  laid_length b xs i h = simp (length-append, length-take, length-drop) (omega arith)

  -- one part behind another
  pub laid_laid : (b xs ys : List A) (i j : ℕ) → i ≤ length b → j ≡ i + length xs → laid j ys (laid i xs b) ≡ laid i (xs ++ ys) b
  laid_laid b xs ys i j h e =
      let p : length (take i b ++ xs) ≡ j = length-append (take i b) xs ∙ ap (λ n. n + length xs) (front_length b i h) ∙ sym e in
      let a : laid i xs b ≡ (take i b ++ xs) ++ drop (i + length xs) b = sym (append_assoc (take i b) xs (drop (i + length xs) b)) in
      let t : take j (laid i xs b) ≡ take i b ++ xs = ap (take j) a ∙ take_at (take i b ++ xs) (drop (i + length xs) b) j p in
      let q : drop (j + length ys) (laid i xs b) ≡ drop (i + length (xs ++ ys)) b =
      sym (drop-drop (length ys) j (laid i xs b))
      ∙ ap (λ (x : List A). drop (length ys) (drop j x)) a
      ∙ ap (drop (length ys)) (drop_at (take i b ++ xs) (drop (i + length xs) b) j p)
      ∙ drop-drop (length ys) (i + length xs) b
      ∙ (let k : i + length xs + length ys ≡ i + length (xs ++ ys) = add_assoc i (length xs) (length ys) ∙ ap (λ n. i + n) (sym (length-append xs ys)) in ap (λ n. drop n b) k) in
      ap (λ (x : List A). x ++ (ys ++ drop (j + length ys) (laid i xs b))) t
      ∙ ap (λ (x : List A). (take i b ++ xs) ++ (ys ++ x)) q
      ∙ append_assoc (take i b) xs _ ∙ ap (λ (x : List A). take i b ++ x) (sym (append_assoc xs ys _))

  pub laid_take : (b xs : List A) → take (length xs) (laid 0 xs b) ≡ xs
  laid_take b xs = take-append_seam xs _

  -- a part that was lent and written whole
  pub laid_part : (b xs ys : List A) (i k : ℕ) → ys ≡ xs → k ≡ length xs → put_mid i k b ys ≡ laid i xs b
  laid_part b xs ys i k e h =
      ap (λ (x : List A). put_mid i k b x) e
      ∙ ap (λ n. put_mid i n b xs) h
      ∙ ap (λ (x : List A). take i b ++ (xs ++ x)) (drop-drop (length xs) i b)

-- The counter and the clock value moved on.
use Rattle.std.proofs.Common.{◌≡◌, ℕ, ◌+◌, ◌%◌, ◌<◌, ◌≤◌, true, false, ◌∷◌, length, take, drop, sym, refl, ap, ◌∙◌, inl, inr, arith}
use lib.Seq.{take-set-lt}
use Rattle.std.proofs.lemmas.Bool.{cases_Bool, cond-true, cond-false}
use Rattle.std.proofs.lemmas.List.{drop-set-lt, length-set, get_or-take}
use Rattle.model.specs.Packet.{Bytes, byte, bit, has_pcr, pcr_extension, pcr, continuity_counter}
use Rattle.model.specs.Moves.{set_counter, set_pcr, W, move_header}
use Rattle.laws.proofs.Small.{Small, small_at, small_set}
use Rattle.laws.proofs.Bytes.{Long, long, Packet, Like, like_adaptation_flags, clock_set, extension_set, clock_again, clock_same, clock_lt}

pub like_trans : (p q r : Bytes) → Like p q → Like q r → Like p r
like_trans p q r a b = record { b0 = b.b0 ∙ a.b0; b1 = b.b1 ∙ a.b1; b2 = b.b2 ∙ a.b2; b3 = b.b3 ∙ a.b3; b4 = b.b4 ∙ a.b4; b5 = b.b5 ∙ a.b5 }

-- the counter alone
pub long_continuity_counter : (p : Bytes) → Long p → (c : ℕ) → Long (set_counter c p)
long_continuity_counter _ (long b0 b1 b2 b3 b4 b5 b6 b7 b8 b9 b10 b11 r) c = long b0 b1 b2 _ b4 b5 b6 b7 b8 b9 b10 b11 r

pub like_continuity_counter : (p : Bytes) → Long p → (c : ℕ) → c < 16 → Like p (set_counter c p)
like_continuity_counter _ (long b0 b1 b2 b3 b4 b5 b6 b7 b8 b9 b10 b11 r) c h = record { b0 = refl; b1 = refl; b2 = refl; b3 = omega arith; b4 = refl; b5 = refl }

like_clock : (p : Bytes) → Long p → (v : ℕ) → Like p (set_pcr v p)
like_clock _ (long b0 b1 b2 b3 b4 b5 b6 b7 b8 b9 b10 b11 r) v = record { b0 = refl; b1 = refl; b2 = refl; b3 = refl; b4 = refl; b5 = refl }

pub value_continuity_counter : (p : Bytes) → Long p → (c : ℕ) → pcr (set_counter c p) ≡ pcr p
value_continuity_counter _ (long b0 b1 b2 b3 b4 b5 b6 b7 b8 b9 b10 b11 r) c = refl

continuity_counter_clock : (p : Bytes) → Long p → (v : ℕ) → continuity_counter (set_pcr v p) ≡ continuity_counter p
continuity_counter_clock _ (long b0 b1 b2 b3 b4 b5 b6 b7 b8 b9 b10 b11 r) v = refl

continuity_counter_set : (p : Bytes) → Long p → (c : ℕ) → c < 16 → continuity_counter (set_counter c p) ≡ c
continuity_counter_set _ (long b0 b1 b2 b3 b4 b5 b6 b7 b8 b9 b10 b11 r) c h = omega arith

continuity_counter_again : (p : Bytes) → Long p → (c d : ℕ) → d < 16 → set_counter c (set_counter d p) ≡ set_counter c p
continuity_counter_again _ (long b0 b1 b2 b3 b4 b5 b6 b7 b8 b9 b10 b11 r) c d h = ap (λ x. b0 ∷ b1 ∷ b2 ∷ x ∷ b4 ∷ b5 ∷ b6 ∷ b7 ∷ b8 ∷ b9 ∷ b10 ∷ b11 ∷ r) (omega arith)

continuity_counter_same : (p : Bytes) → Long p → set_counter (continuity_counter p) p ≡ p
continuity_counter_same _ (long b0 b1 b2 b3 b4 b5 b6 b7 b8 b9 b10 b11 r) = ap (λ x. b0 ∷ b1 ∷ b2 ∷ x ∷ b4 ∷ b5 ∷ b6 ∷ b7 ∷ b8 ∷ b9 ∷ b10 ∷ b11 ∷ r) (omega arith)

swap : (p : Bytes) → Long p → (c v : ℕ) → set_counter c (set_pcr v p) ≡ set_pcr v (set_counter c p)
swap _ (long b0 b1 b2 b3 b4 b5 b6 b7 b8 b9 b10 b11 r) c v = refl

-- both
pub header_plain : (c t : ℕ) (p : Bytes) → has_pcr p ≡ false → move_header c t p ≡ set_counter ((continuity_counter p + c) % 16) p
unfolding move_header
header_plain c t p h = cond-false (has_pcr p) _ _ h

pub header_clock : (c t : ℕ) (p : Bytes) → has_pcr p ≡ true → move_header c t p ≡ set_pcr ((pcr p + t) % W) (set_counter ((continuity_counter p + c) % 16) p)
unfolding move_header
header_clock c t p h = cond-true (has_pcr p) _ _ h

lt16 : (x : ℕ) → x % 16 < 16
lt16 x = omega arith

lt_W : (x : ℕ) → x % W < W
lt_W x = omega arith

add16 : (x c d : ℕ) → ((x + c) % 16 + d) % 16 ≡ (x + (c + d)) % 16
add16 x c d = omega arith

add_w : (x c d : ℕ) → ((x + c) % W + d) % W ≡ (x + (c + d)) % W
add_w x c d = omega arith

none16 : (x c : ℕ) → x < 16 → c % 16 ≡ 0 → (x + c) % 16 ≡ x
none16 x c h k = omega arith

none_W : (x c : ℕ) → x < W → c % W ≡ 0 → (x + c) % W ≡ x
none_W x c h k = omega arith

-- the flag is that of p, for the cases below
pub like_flag : (p q : Bytes) → Like p q → has_pcr q ≡ has_pcr p
like_flag p q l = ap (λ x. bit 4 x) (like_adaptation_flags p q l)

module _ (p : Bytes) (l : Long p) (c t : ℕ) where
  pub header_like : Like p (move_header c t p)
  header_like = elim (cases_Bool (has_pcr p)) [
    | inl h ↦ rw (header_clock c t p h) (like_trans p _ _ (like_continuity_counter p l _ (lt16 _)) (like_clock _ (long_continuity_counter p l _) _))
    | inr h ↦ rw (header_plain c t p h) (like_continuity_counter p l _ (lt16 _))
  ]

  pub header_flag : has_pcr (move_header c t p) ≡ has_pcr p
  header_flag = like_flag p (move_header c t p) header_like

  pub header_continuity_counter : continuity_counter (move_header c t p) ≡ (continuity_counter p + c) % 16
  header_continuity_counter = elim (cases_Bool (has_pcr p)) [
    | inl h ↦ rw (header_clock c t p h) (continuity_counter_clock _ (long_continuity_counter p l _) _ ∙ continuity_counter_set p l _ (lt16 _))
    | inr h ↦ rw (header_plain c t p h) (continuity_counter_set p l _ (lt16 _))
  ]

  pub header_value : has_pcr p ≡ true → pcr (move_header c t p) ≡ (pcr p + t) % W
  header_value h = rw (header_clock c t p h) (clock_set _ (long_continuity_counter p l _) _)

  pub header_extension : has_pcr p ≡ true → pcr_extension (move_header c t p) < 300
  header_extension h = rw (header_clock c t p h, extension_set _ (long_continuity_counter p l _) _) (omega arith)

-- laws
pub header_add : (p : Bytes) → Long p → (c t d v : ℕ) → move_header d v (move_header c t p) ≡ move_header (c + d) (t + v) p
header_add p l c t d v =
    let q : Bytes = move_header c t p in
    let eq : continuity_counter q ≡ (continuity_counter p + c) % 16 = header_continuity_counter p l c t in
    let ec : (continuity_counter q + d) % 16 ≡ (continuity_counter p + (c + d)) % 16 = ap (λ x. (x + d) % 16) eq ∙ add16 (continuity_counter p) c d in
    elim (cases_Bool (has_pcr p)) [
      | inl h ↦
          let m : Bytes = set_counter ((continuity_counter p + c) % 16) p in
          let lm : Long m = long_continuity_counter p l ((continuity_counter p + c) % 16) in
          let w : ℕ = (pcr p + t) % W in
          let ev : (pcr q + v) % W ≡ (pcr p + (t + v)) % W = ap (λ x. (x + v) % W) (header_value p l c t h) ∙ add_w (pcr p) t v in
          header_clock d v q (header_flag p l c t ∙ h)
          ∙ ap (λ x. set_pcr x (set_counter ((continuity_counter q + d) % 16) q)) ev
          ∙ ap (λ x. set_pcr ((pcr p + (t + v)) % W) (set_counter x q)) ec
          ∙ ap (λ x. set_pcr ((pcr p + (t + v)) % W) (set_counter ((continuity_counter p + (c + d)) % 16) x)) (header_clock c t p h)
          ∙ ap (set_pcr ((pcr p + (t + v)) % W)) (swap m lm ((continuity_counter p + (c + d)) % 16) w)
          ∙ ap (λ x. set_pcr ((pcr p + (t + v)) % W) (set_pcr w x)) (continuity_counter_again p l ((continuity_counter p + (c + d)) % 16) ((continuity_counter p + c) % 16) (lt16 (continuity_counter p + c)))
          ∙ clock_again (set_counter ((continuity_counter p + (c + d)) % 16) p) (long_continuity_counter p l ((continuity_counter p + (c + d)) % 16)) ((pcr p + (t + v)) % W) w
          ∙ sym (header_clock (c + d) (t + v) p h)
      | inr h ↦
          header_plain d v q (header_flag p l c t ∙ h)
          ∙ ap (λ x. set_counter x q) ec
          ∙ ap (set_counter ((continuity_counter p + (c + d)) % 16)) (header_plain c t p h)
          ∙ continuity_counter_again p l ((continuity_counter p + (c + d)) % 16) ((continuity_counter p + c) % 16) (lt16 (continuity_counter p + c))
          ∙ sym (header_plain (c + d) (t + v) p h)
    ]

pub header_none : (p : Bytes) → Packet p → Long p → (has_pcr p ≡ true → pcr_extension p < 300) → (c t : ℕ) → c % 16 ≡ 0 → t % W ≡ 0 → move_header c t p ≡ p
header_none p k l x c t hc ht =
    let m : Bytes = set_counter ((continuity_counter p + c) % 16) p in
    let e : m ≡ p = ap (λ x. set_counter x p) (none16 (continuity_counter p) c (lt16 (byte p 3)) hc) ∙ continuity_counter_same p l in
    elim (cases_Bool (has_pcr p)) [
      | inl h ↦ header_clock c t p h
          ∙ ap (set_pcr ((pcr p + t) % W)) e
          ∙ ap (λ x. set_pcr x p) (none_W (pcr p) t (clock_lt p k (x h) l) ht)
          ∙ clock_same p k (x h) l
      | inr h ↦ header_plain c t p h ∙ e
    ]

pub header_length : (p : Bytes) → Long p → (c t : ℕ) → length (move_header c t p) ≡ length p
header_length p l c t = elim (cases_Bool (has_pcr p)) [
  | inl h ↦ ap length (header_clock c t p h) ∙ simp length-set
  | inr h ↦ ap length (header_plain c t p h) ∙ simp length-set
]

pub header_drop : (p : Bytes) (c t n : ℕ) → 4 ≤ n → (has_pcr p ≡ true → 12 ≤ n) → drop n (move_header c t p) ≡ drop n p
header_drop p c t n h k = elim (cases_Bool (has_pcr p)) [
  | inl f ↦
      let g : 12 ≤ n = k f in
      let h3 : 3 < n = omega arith in let h6 : 6 < n = omega arith in let h7 : 7 < n = omega arith in let h8 : 8 < n = omega arith in
      let h9 : 9 < n = omega arith in let h10 : 10 < n = omega arith in let h11 : 11 < n = omega arith in
      ap (drop n) (header_clock c t p f) ∙ simp drop-set-lt
  | inr f ↦ let h3 : 3 < n = omega arith in ap (drop n) (header_plain c t p f) ∙ simp drop-set-lt
]

-- what the first n bytes become does not hang on the others
front_continuity_counter : (p q : Bytes) (n c : ℕ) → 4 ≤ n → take n p ≡ take n q → take n (set_counter c p) ≡ take n (set_counter c q)
front_continuity_counter p q n c h e =
    let h3 : 3 < n = omega arith in
    let b : byte p 3 ≡ byte q 3 = sym (get_or-take n p 3 0 h3) ∙ ap (λ x. byte x 3) e ∙ get_or-take n q 3 0 h3 in
    take-set-lt n p 3 _ h3 ∙ (rw (e, b)) ∙ sym (take-set-lt n q 3 _ h3)

front_clock : (p q : Bytes) (n v : ℕ) → 12 ≤ n → take n p ≡ take n q → take n (set_pcr v p) ≡ take n (set_pcr v q)
front_clock p q n v h e =
    let h6 : 6 < n = omega arith in let h7 : 7 < n = omega arith in let h8 : 8 < n = omega arith in
    let h9 : 9 < n = omega arith in let h10 : 10 < n = omega arith in let h11 : 11 < n = omega arith in
    let b : byte p 10 ≡ byte q 10 = sym (get_or-take n p 10 0 h10) ∙ ap (λ x. byte x 10) e ∙ get_or-take n q 10 0 h10 in
    simp (take-set-lt, e, b)

pub at_front : (p q : Bytes) (n i : ℕ) → i < n → take n p ≡ take n q → byte p i ≡ byte q i
at_front p q n i h e = sym (get_or-take n p i 0 h) ∙ ap (λ x. byte x i) e ∙ get_or-take n q i 0 h

pub value_front : (p q : Bytes) (n : ℕ) → 12 ≤ n → take n p ≡ take n q → pcr p ≡ pcr q
value_front p q n h e =
    let e6 : byte p 6 ≡ byte q 6 = at_front p q n 6 (omega arith) e in
    let e7 : byte p 7 ≡ byte q 7 = at_front p q n 7 (omega arith) e in
    let e8 : byte p 8 ≡ byte q 8 = at_front p q n 8 (omega arith) e in
    let e9 : byte p 9 ≡ byte q 9 = at_front p q n 9 (omega arith) e in
    let e10 : byte p 10 ≡ byte q 10 = at_front p q n 10 (omega arith) e in
    let e11 : byte p 11 ≡ byte q 11 = at_front p q n 11 (omega arith) e in
    rw (e6, e7, e8, e9, e10, e11)

pub header_front : (p q : Bytes) (c t n : ℕ) → 4 ≤ n → (has_pcr p ≡ true → 12 ≤ n) → has_pcr q ≡ has_pcr p → take n p ≡ take n q →
    take n (move_header c t p) ≡ take n (move_header c t q)
header_front p q c t n h k f e =
    let b3 : byte p 3 ≡ byte q 3 = at_front p q n 3 (omega arith) e in
    let bc : continuity_counter p ≡ continuity_counter q = ap (λ x. x % 16) b3 in
    elim (cases_Bool (has_pcr p)) [
      | inl y ↦
          ap (take n) (header_clock c t p y)
          ∙ front_clock _ _ n _ (k y) (front_continuity_counter p q n _ h e)
          ∙ ap (λ x. take n (set_pcr ((x + t) % W) (set_counter ((continuity_counter p + c) % 16) q))) (value_front p q n (k y) e)
          ∙ ap (λ x. take n (set_pcr ((pcr q + t) % W) (set_counter ((x + c) % 16) q))) bc
          ∙ sym (ap (take n) (header_clock c t q (f ∙ y)))
      | inr y ↦
          ap (take n) (header_plain c t p y)
          ∙ front_continuity_counter p q n _ h e
          ∙ ap (λ x. take n (set_counter ((x + c) % 16) q)) bc
          ∙ sym (ap (take n) (header_plain c t q (f ∙ y)))
    ]

continuity_counter_small : (p : Bytes) → Small p → (c : ℕ) → c < 16 → Small (set_counter c p)
continuity_counter_small p s c h = let b : byte p 3 < 256 = small_at p s 3 in small_set p s 3 _ (omega arith)

clock_small : (p : Bytes) → Small p → (v : ℕ) → v < W → Small (set_pcr v p)
clock_small p s v h =
    small_set _ (small_set _ (small_set _ (small_set _ (small_set _ (small_set p s 6 _ (omega arith)) 7 _ (omega arith)) 8 _ (omega arith)) 9 _ (omega arith)) 10 _ (omega arith)) 11 _ (omega arith)

pub header_small : (p : Bytes) → Small p → (c t : ℕ) → Small (move_header c t p)
header_small p s c t = elim (cases_Bool (has_pcr p)) [
  | inl h ↦ rw (header_clock c t p h) (clock_small _ (continuity_counter_small p s _ (lt16 _)) _ (lt_W _))
  | inr h ↦ rw (header_plain c t p h) (continuity_counter_small p s _ (lt16 _))
]

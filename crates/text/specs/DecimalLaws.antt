-- Laws of numbers in decimal, in this order: the two cases of the digits; what `io::decimal` gives is these digits; how
-- many there are at most, also of what it gives; the two cases of a signed value, and how long the text of a file's value
-- is at most.
use Rattle.std.specs.Prelude.{ℕ, zero, suc, ◌+◌, ◌*◌, ◌-◌, ◌/◌, ◌%◌, ◌^◌, ◌≤◌, ◌<◌, List, [], ◌∷◌, ◌++◌, ◌≡◌, refl}
use Rattle.std.specs.Prelude.{true, false, ℤ, pos, negsuc, nat_abs, length, take}
use Rattle.std.proofs.Common.{sym, ap, ◌∙◌, not-suc-le-zero, pow-suc, div-lt_iff_lt-mul, le-div_iff_mul-le, arith}
use Rattle.std.proofs.Common.{lit<, length-append, length-take, lt-ltb, le-ltb}
use Rattle.std.proofs.Math.Decide.{dec_lt}
use Rattle.std.proofs.lemmas.Bool.Decides.{nat_tests}
use Rattle.std.proofs.Math.Nat.{pow-le-pow_right}
use lib.Signed.{lt_z}
use Rattle.io.specs.Digits.{last_digits, hex_digit_ascii, IsDigitCount}
use Rattle.numbers.specs.Numbers.{signed, value_at}
use Rattle.text.specs.Text.{text_in, text_of, signed_text}
use Rattle.text.specs.Words.{bytes_of}

-- ---- a number below 10 is one digit; any other is the digits of its tenth and then its last
text_small : (most n : ℕ) → n < 10 → text_in (suc most) n ≡ (48 + n) ∷ []
unfolding text_in
text_small most n h = simp (lt-ltb _ _ h)

text_large : (most n : ℕ) → 10 ≤ n → text_in (suc most) n ≡ text_in most (n / 10) ++ ((48 + n % 10) ∷ [])
unfolding text_in
text_large most n h = simp (le-ltb _ _ h)

-- ---- the fewest digits that hold n, as `io::decimal` gives them
glyph_digit : (d : ℕ) → d < 10 → hex_digit_ascii d ≡ 48 + d
glyph_digit d h = simp (lt-ltb _ _ h)

digits_text : (most k n : ℕ) → k ≤ most → IsDigitCount 10 1 n k → last_digits 10 k n ≡ text_in most n
digits_text most zero n l h = absurd (not-suc-le-zero h.0)
digits_text zero (suc k) n l h = absurd (not-suc-le-zero l)
digits_text (suc most) (suc zero) n l h =
    let m : n < 10 = h.1 in
    let e : n % 10 ≡ n = omega arith in
    simp (e, glyph_digit n m) (sym (text_small most n m))
digits_text (suc most) (suc (suc k)) n l h =
    let p : 10 ^ (suc (suc k) - 1) ≤ n = h.2 (omega arith) in
    let e : suc (suc k) - 1 ≡ suc k = omega arith in
    let q : 10 ^ suc k ≤ n = rw e at p in
    let w : 10 ^ k * 10 ≤ n = rw pow-suc at q in
    let one : 1 ≤ 10 ^ k = pow-le-pow_right {n = 10} (lit< tt) {i = 0} {j = k} (omega arith) in
    let m : 10 ≤ n = omega arith in
    let b : n / 10 < 10 ^ suc k = (div-lt_iff_lt-mul {k = 10} (lit< tt)).1 (rw pow-suc at h.1) in
    let d : suc k - 1 ≡ k = omega arith in
    let c : 10 ^ (suc k - 1) ≤ n / 10 = rw d ((le-div_iff_mul-le {k = 10} (lit< tt)).1 w) in
    let i : IsDigitCount 10 1 (n / 10) (suc k) = (omega arith, b, λ u. c) in
    ap (λ (x : List ℕ). x ++ (hex_digit_ascii (n % 10) ∷ [])) (digits_text most (suc k) (n / 10) (omega arith) i)
    ∙ ap (λ (x : ℕ). text_in most (n / 10) ++ (x ∷ [])) (glyph_digit (n % 10) (omega arith)) ∙ sym (text_large most n m)

-- ten of them hold every number of 32 bits
few_digits : (n k : ℕ) → n < 2 ^ 32 → IsDigitCount 10 1 n k → k ≤ 10
few_digits n k h f = pick (dec_lt 10 k)
  where
    pick : Dec (10 < k) → k ≤ 10
    pick (yes p) =
        let b : 10 ^ 10 ≤ 10 ^ (k - 1) = pow-le-pow_right {n = 10} (lit< tt) {i = 10} {j = k - 1} (omega arith) in
        let c : 10 ^ (k - 1) ≤ n = f.2 (omega arith) in
        absurd (omega arith)
    pick (no p) = omega arith

pub decimal_text : (n k : ℕ) (xs : List ℕ) → n < 2 ^ 32 → IsDigitCount 10 1 n k → take k xs ≡ last_digits 10 k n
    → take k xs ≡ text_of n
unfolding text_of
decimal_text n k xs h f e = let few : k ≤ 20 = omega (arith, few_digits n k h f) in e ∙ digits_text 20 k n few f

-- ---- a number below 10 ^ suc k has at most suc k digits
text_length : (most k n : ℕ) → n < 10 ^ suc k → length (text_in most n) ≤ suc k
unfolding text_in
text_length zero k n h = omega arith
text_length (suc most) k n h = pick (dec_lt n 10) k h (text_length most)
  where
    pick : Dec (n < 10) → (k : ℕ) → n < 10 ^ suc k → ((j m : ℕ) → m < 10 ^ suc j → length (text_in most m) ≤ suc j)
        → length (text_in (suc most) n) ≤ suc k
    pick (yes p) k h rec = omega (arith, ap length (text_small most n p))
    pick (no p) zero h rec = absurd (omega arith)
    pick (no p) (suc j) h rec =
        let b : n / 10 < 10 ^ suc j = (div-lt_iff_lt-mul {k = 10} (lit< tt)).1 (rw pow-suc at h) in
        let r : length (text_in most (n / 10)) ≤ suc j = rec j (n / 10) b in
        omega
        (arith, ap length (text_large most n (omega arith)), length-append (text_in most (n / 10)) ((48 + n % 10) ∷ []))

pub ten_digits : (n : ℕ) → n < 2 ^ 32 → length (text_of n) ≤ 10
unfolding text_of
ten_digits n h = text_length 20 9 n (omega arith)

pub decimal_length : (n k : ℕ) (xs : List ℕ) → n < 2 ^ 32 → IsDigitCount 10 1 n k → take k xs ≡ last_digits 10 k n
    → length (take k xs) ≤ 10
decimal_length n k xs h f e = omega (arith, few_digits n k h f, length-take k xs)

-- ---- a sign and then the digits, or the digits alone
pub signed_negative : (z : ℤ) → lt_z z (pos 0) ≡ true → signed_text z ≡ bytes_of "-" ++ text_of (nat_abs z)
unfolding signed_text
signed_negative (pos n) h = grind arith
signed_negative (negsuc n) h = refl

pub signed_whole : (z : ℤ) → lt_z z (pos 0) ≡ false → signed_text z ≡ text_of (nat_abs z)
unfolding signed_text
signed_whole (pos n) h = refl
signed_whole (negsuc n) h = cc

-- ---- the text of a file's value has at most 11 bytes, whatever the file holds
pub value_length : (s : List ℕ) (at : ℕ) → length (signed_text (value_at s at)) ≤ 11
unfolding value_at signed signed_text
value_length s at = grind (arith, nat_tests, ten_digits)

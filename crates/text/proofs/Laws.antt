-- Laws of decimal numbers and of octets put at a place: what the functions of this crate and their callers cite, and that a
-- decimal number reads back. Assumes nothing.
use mathlib.Core.Path.{◌≡◌, refl, sym, ap, ap₂, ◌∙◌}
use mathlib.Core.Bool.{Bool, true, false}
use mathlib.Core.List.{List, [], ◌∷◌, ◌++◌, append_assoc, append-nil}
use Prim.Native.Nat.{ℕ, zero, suc, ◌+◌, ◌-◌, ◌*◌, ◌/◌, ◌%◌, ◌^◌, ◌≤◌, ◌<◌}
use native.Mathlib.Nat.{pow-suc}
use native.Mathlib.Numerals.{add-one}
use native.Mathlib.Omega.{arith}
use borrow.Author.Tests.{ltb-true, ltb-false, lt-ltb, ne_eqb}
use lib.Dec.{eqb, ltb}
use lib.ListN.{length, take, drop, get_or, set, length-append}
use lib.Seq.{take-length, paste, paste-zero, paste-suc, length-paste}
use Rattle.std.proofs.lemmas.Fmt.{length-decimal-le}
use Rattle.std.specs.Fmt.{decimal as std_decimal, digits as std_digits, digits_onto}
use Rattle.words.specs.Splice.{splice}
use Rattle.words.proofs.Splice.{splice-long, splice-splice}
use Rattle.text.specs.Text.{digit, digits, decimal, lf, line, Put, read_on, read, ReadsBack, LeadingDigit, NoLeadingZero}

-- ---- octets put at a place

module _ (at : ℕ) (xs before after : List ℕ) (r : ℕ) (p : Put at xs before after r) (room : at + length xs ≤ length before) where
  pub put_long : length after ≡ length before
  put_long = ap length p.leaves ∙ splice-long at xs before room

-- one put after the other
pub put_put : (at : ℕ) (xs ys a b c : List ℕ) (m r : ℕ) → at + length xs + length ys ≤ length a → Put at xs a b m → Put m ys b c r → Put at (xs ++ ys) a c r
put_put at xs ys a b c m r room p q =
    record {
      leaves =
          q.leaves
          ∙ ap₂ (λ (k : ℕ) (o : List ℕ). splice k ys o) p.next p.leaves
          ∙ splice-splice at xs ys a room;
      next = omega (arith, p.next, q.next, length-append xs ys);
    }

-- a loop that copies: its first i octets stand in their place
pub record Copied (at : ℕ) (xs before out : List ℕ) (i : ℕ) : Type 0 where
  pub within : i ≤ length xs
  pub room : at + length xs ≤ length before
  pub is : out ≡ paste before at xs i

module _ (at : ℕ) (xs before : List ℕ) where
  pub copied_none : at + length xs ≤ length before → Copied at xs before before 0
  copied_none h = record { within = omega arith; room = h; is = paste-zero before at xs }

  module _ (out : List ℕ) (i : ℕ) (c : Copied at xs before out i) where
    pub copied_long : length out ≡ length before
    copied_long = ap length c.is ∙ length-paste before at xs i (omega (arith, c.within, c.room)) c.within

    pub copied_more : i < length xs → Copied at xs before (set out (at + i) (get_or xs i 0)) (i + 1)
    copied_more l =
        record {
          within = omega (arith, l);
          room = c.room;
          is =
              ap (λ (o : List ℕ). set o (at + i) (get_or xs i 0)) c.is
              ∙ paste-suc before at xs i 0 (omega (arith, l, c.room)) l
              ∙ ap (paste before at xs) (sym (add-one i));
        }

    pub copied_all : length xs ≤ i → Put at xs before out (at + length xs)
    copied_all l =
        let all : i ≡ length xs = omega (arith, l, c.within) in
        record {
          leaves =
              c.is
              ∙ ap (paste before at xs) all
              ∙ ap (λ (ys : List ℕ). take at before ++ ys ++ drop (at + length xs) before) (take-length xs)
              ∙ append_assoc (take at before) xs (drop (at + length xs) before);
          next = refl;
        }

-- ---- decimal numbers

-- digits in front of others, as std writes them
digits_std : (k most n : ℕ) (acc : List ℕ) → n < most → n < 10 ^ suc k → digits most n ++ acc ≡ digits_onto (suc k) 10 false n acc
digits_std k zero n acc h l = absurd (omega arith)
digits_std zero (suc most) n acc h l =
    let small : n < 10 = omega (arith, l) in
    let none : n / 10 ≡ 0 = omega (arith, small) in
    let all : n % 10 ≡ n = omega (arith, small) in
    rw (lt-ltb n 10 small, none, all, lt-ltb n 10 small) refl
digits_std (suc k) (suc most) n acc h l = go (ltb n 10) refl (λ less. digits_std k most (n / 10) (digit (n % 10) ∷ acc) less (omega (arith, l, pow-suc 10 (suc k))))
  where
    go : (b : Bool) → ltb n 10 ≡ b → (n / 10 < most → digits most (n / 10) ++ (digit (n % 10) ∷ acc) ≡ digits_onto (suc k) 10 false (n / 10) (digit (n % 10) ∷ acc))
        → digits (suc most) n ++ acc ≡ digits_onto (suc (suc k)) 10 false n acc
    go true e before =
        let small = ltb-true n 10 e in
        let none : n / 10 ≡ 0 = omega (arith, small) in
        let all : n % 10 ≡ n = omega (arith, small) in
        rw (e, none, all, e) refl
    go false e before =
        let big = ltb-false n 10 e in
        let some : eqb (n / 10) 0 ≡ false = ne_eqb (n / 10) 0 (λ z. omega (arith, z, big)) in
        rw (e, some, lt-ltb (n % 10) 10 (omega arith), append_assoc (digits most (n / 10)) (digit (n % 10) ∷ []) acc) (before (omega (arith, big)))

-- so a number of 64 bits is written as std's `decimal`
pub decimal_std : (n : ℕ) → n < 2 ^ 64 → decimal n ≡ std_decimal n
unfolding decimal std_digits
decimal_std n h = sym (append-nil (digits (suc n) n)) ∙ digits_std 63 (suc n) n [] (omega arith) (omega (arith, h))

-- a number of 64 bits has at most 20 digits
pub decimal_20 : (n : ℕ) → n < 2 ^ 64 → length (decimal n) ≤ 20
decimal_20 n h = rw (decimal_std n h) (length-decimal-le 20 n (omega arith) (omega (arith, h)) h)

-- a line: its key, its number, its end
module _ (at n : ℕ) (key out : List ℕ) (room : at + length (line key n) ≤ length out) where
  line-long : length (line key n) ≡ length key + length (decimal n) + 1
  line-long =
      omega (arith, length-append key (decimal n ++ (lf ∷ [])), length-append (decimal n) (lf ∷ []))

  pub key_room : at + length key ≤ length out
  key_room = omega (arith, room, line-long)

  module _ (o₁ : List ℕ) (t₁ : ℕ) (p : Put at key out o₁ t₁) where
    pub number-room : t₁ + length (decimal n) ≤ length o₁
    number-room = omega (arith, room, line-long, p.next, put_long at key out o₁ t₁ p key_room)

    module _ (o₂ : List ℕ) (t₂ : ℕ) (q : Put t₁ (decimal n) o₁ o₂ t₂) where
      pub end-room : t₂ + length (lf ∷ []) ≤ length o₂
      end-room =
          omega (
            arith,
            room,
            line-long,
            p.next,
            q.next,
            put_long at key out o₁ t₁ p key_room,
            put_long t₁ (decimal n) o₁ o₂ t₂ q number-room,
          )

      pub line_put : (o₃ : List ℕ) (t₃ : ℕ) → Put t₂ (lf ∷ []) o₂ o₃ t₃ → Put at (line key n) out o₃ t₃
      line_put o₃ t₃ r =
          let tail = put_put t₁ (decimal n) (lf ∷ []) o₁ o₂ o₃ t₂ t₃ (omega (arith, end-room, q.next, put_long t₁ (decimal n) o₁ o₂ t₂ q number-room)) q r in
          put_put at key (decimal n ++ (lf ∷ [])) out o₁ o₃ t₁ t₃ (omega (arith, room, line-long, length-append (decimal n) (lf ∷ []))) p tail

-- ---- a decimal number reads back

read_more : (a : ℕ) (ds : List ℕ) (d : ℕ) → read_on a (ds ++ (digit d ∷ [])) ≡ read_on a ds * 10 + d
read_more a [] d = omega arith
read_more a (x ∷ ds) d = read_more (a * 10 + (x - 48)) ds d

digits-read : (most n : ℕ) → n < most → read (digits most n) ≡ n
digits-read zero n h = absurd (omega arith)
digits-read (suc most) n h = go (ltb n 10) refl (λ less. digits-read most (n / 10) less)
  where
    go : (b : Bool) → ltb n 10 ≡ b → (n / 10 < most → read (digits most (n / 10)) ≡ n / 10) → read (digits (suc most) n) ≡ n
    go true e before = rw e (omega arith)
    go false e before =
        let big = ltb-false n 10 e in
        rw e (read_more 0 (digits most (n / 10)) (n % 10) ∙ ap (λ (m : ℕ). m * 10 + n % 10) (before (omega (arith, big))) ∙ omega arith)

pub reads_back : ReadsBack
unfolding decimal
reads_back n = digits-read (suc n) n (omega arith)

leading_append : (ds es : List ℕ) → LeadingDigit ds → LeadingDigit (ds ++ es)
leading_append [] es h = absurd h
leading_append (d ∷ ds) es h = h

digits_front : (most n : ℕ) → n < most → 0 < n → LeadingDigit (digits most n)
digits_front zero n h l = absurd (omega arith)
digits_front (suc most) n h l = go (ltb n 10) refl (λ less some. digits_front most (n / 10) less some)
  where
    go : (b : Bool) → ltb n 10 ≡ b → (n / 10 < most → 0 < n / 10 → LeadingDigit (digits most (n / 10))) → LeadingDigit (digits (suc most) n)
    go true e before = let small = ltb-true n 10 e in rw e (omega (arith, small, l), omega (arith, small))
    go false e before =
        let big = ltb-false n 10 e in
        rw e (leading_append (digits most (n / 10)) (digit (n % 10) ∷ []) (before (omega (arith, big)) (omega (arith, big))))

pub no_leading_zero : NoLeadingZero
unfolding decimal
no_leading_zero n h = digits_front (suc n) n (omega arith) h

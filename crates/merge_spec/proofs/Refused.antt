-- Which check gives a refusal, with which port, and when exactly 17 is given. Assumes nothing.
use Rattle.std.specs.Prelude.{None, Some}
use mathlib.Core.Bool.{Bool, true, false, cond}
use mathlib.Core.List.{List, [], ◌∷◌}
use mathlib.Core.Logic.{◌⊎◌, inl, inr}
use mathlib.Core.Path.{◌≡◌, refl, sym, ◌∙◌}
use Prim.Native.Nat.{ℕ, ◌+◌}
use native.Mathlib.Omega.{arith}
use borrow.Author.Tests.{ltb-true, lt-ltb}
use lib.Dec.{ltb}
use lib.ListN.{length}
use Rattle.refusal.specs.Checks.{Check, first}
use Rattle.refusal.specs.declared.Refusal.{Refusal}
use Rattle.refusal.specs.declared.Refusal.TheVariants.{Width, UserBits, Length, Room, Tags}
use Rattle.refusal.proofs.First.{append-found}
use Rattle.stream_spec.specs.declared.Shape.{Shape}
use Rattle.stream_spec.specs.Checks.{width_check, user_check, length_check, take_checks, room_check}
use Rattle.merge_spec.specs.declared.PortRefusal.{PortRefusal}
use Rattle.merge_spec.specs.Merge.{merged}
use Rattle.merge_spec.specs.Answers.{named, naming, port_checks, merge_refusal}
use Rattle.merge_spec.specs.Promises.{AllSound, Readable, RefusedBy, HighBy}
use Rattle.merge_spec.proofs.Refusals.{clash, naming-first, naming-none, named_some, append-some, roomed, fourth, third, second, after-take, after-other, after-firsts, after_seconds}
use Rattle.merge_spec.proofs.Faults.{all_sound, sound-all, high-at, at_high, readable_of, take-readable, other-readable}
use Rattle.merge_spec.proofs.Merge.{merged_both}

-- ---- part by part: one of them gives it, and none of those in front gives anything

module _ (s : Shape) (xs ys : List ℕ) (room port : ℕ) (r : Refusal) where
  abbrev it : PortRefusal
  it = named port r

  by_port : (p : ℕ) (cs : List (Check Refusal)) → first (naming p cs) ≡ Some it → (port ≡ p) × (first cs ≡ Some r)
  by_port p cs e = named_some p port r (first cs) (sym (naming-first p cs) ∙ e)

  -- as long as both lists together
  both_long : Readable s xs ys → length (merged s xs ys) ≡ length xs + length ys
  both_long h = merged_both s xs ys h.first.1 h.second.1

  by_room : Readable s xs ys → AllSound s xs → AllSound s ys → first (roomed s xs ys room) ≡ Some it → RefusedBy s xs ys room port r
  by_room h a b e =
      let f = by_port 0 (room_check (merged s xs ys) room ∷ []) e in
      go (ltb room (length (merged s xs ys))) refl f.0 f.1
    where
      go : (t : Bool) → ltb room (length (merged s xs ys)) ≡ t → port ≡ 0 → cond t (Some Room) None ≡ Some r → RefusedBy s xs ys room port r
      go true q p f = inr (inr (inr (inr (p, h, a, b, omega (arith, ltb-true room (length (merged s xs ys)) q, both_long h), cc))))
      go false q p f = clash cc

  by_second : Readable s xs ys → AllSound s xs → first (fourth s xs ys room) ≡ Some it → RefusedBy s xs ys room port r
  by_second h a e = go (append-some (naming 1 (port_checks s ys)) (roomed s xs ys room) it e)
    where
      go : (first (naming 1 (port_checks s ys)) ≡ Some it) ⊎ ((first (naming 1 (port_checks s ys)) ≡ None) × (first (roomed s xs ys room) ≡ Some it))
          → RefusedBy s xs ys room port r
      go (inl f) = let g = by_port 1 (port_checks s ys) f in inr (inr (inr (inl (g.0, h, a, g.1))))
      go (inr f) = by_room h a (all_sound s ys (naming-none 1 (port_checks s ys) f.0)) f.1

  by_first : Readable s xs ys → first (third s xs ys room) ≡ Some it → RefusedBy s xs ys room port r
  by_first h e = go (append-some (naming 0 (port_checks s xs)) (fourth s xs ys room) it e)
    where
      go : (first (naming 0 (port_checks s xs)) ≡ Some it) ⊎ ((first (naming 0 (port_checks s xs)) ≡ None) × (first (fourth s xs ys room) ≡ Some it))
          → RefusedBy s xs ys room port r
      go (inl f) = let g = by_port 0 (port_checks s xs) f in inr (inr (inl (g.0, h, g.1)))
      go (inr f) = by_second h (all_sound s xs (naming-none 0 (port_checks s xs) f.0)) f.1

  by_length : first (take_checks s xs) ≡ None → first (second s xs ys room) ≡ Some it → RefusedBy s xs ys room port r
  by_length t e = go (append-some (naming 1 (length_check s ys ∷ [])) (third s xs ys room) it e)
    where
      go : (first (naming 1 (length_check s ys ∷ [])) ≡ Some it)
          ⊎ ((first (naming 1 (length_check s ys ∷ [])) ≡ None) × (first (third s xs ys room) ≡ Some it))
          → RefusedBy s xs ys room port r
      go (inl f) = let g = by_port 1 (length_check s ys ∷ []) f in inr (inl (g.0, t, g.1))
      go (inr f) = by_first (readable_of s xs ys t (naming-none 1 (length_check s ys ∷ []) f.0)) f.1

  pub refused_there : merge_refusal s xs ys room ≡ Some it → RefusedBy s xs ys room port r
  refused_there e = go (append-some (naming 0 (take_checks s xs)) (second s xs ys room) it e)
    where
      go : (first (naming 0 (take_checks s xs)) ≡ Some it) ⊎ ((first (naming 0 (take_checks s xs)) ≡ None) × (first (second s xs ys room) ≡ Some it))
          → RefusedBy s xs ys room port r
      go (inl f) = inl (by_port 0 (take_checks s xs) f)
      go (inr f) = by_length (naming-none 0 (take_checks s xs) f.0) f.1

  -- and the other way round
  found_by : (p : ℕ) (cs : List (Check Refusal)) → port ≡ p → first cs ≡ Some r → first (naming p cs) ≡ Some it
  found_by p cs q e = naming-first p cs ∙ rw (q, e) refl

  pub refused_back : RefusedBy s xs ys room port r → merge_refusal s xs ys room ≡ Some it
  refused_back (inl h) = append-found (naming 0 (take_checks s xs)) (second s xs ys room) it (found_by 0 (take_checks s xs) h.0 h.1)
  refused_back (inr (inl h)) =
      after-take s xs ys room h.1
      ∙ append-found (naming 1 (length_check s ys ∷ [])) (third s xs ys room) it (found_by 1 (length_check s ys ∷ []) h.0 h.2)
  refused_back (inr (inr (inl h))) =
      after-other s xs ys room (take-readable s xs ys h.1) (other-readable s xs ys h.1)
      ∙ append-found (naming 0 (port_checks s xs)) (fourth s xs ys room) it (found_by 0 (port_checks s xs) h.0 h.2)
  refused_back (inr (inr (inr (inl h)))) =
      after-firsts s xs ys room (take-readable s xs ys h.1) (other-readable s xs ys h.1) (sound-all s xs h.2)
      ∙ append-found (naming 1 (port_checks s ys)) (roomed s xs ys room) it (found_by 1 (port_checks s ys) h.0 h.3)
  refused_back (inr (inr (inr (inr h)))) =
      after_seconds s xs ys room (take-readable s xs ys h.1) (other-readable s xs ys h.1) (sound-all s xs h.2) (sound-all s ys h.3)
      ∙ found_by 0 (room_check (merged s xs ys) room ∷ []) h.0
      (rw (lt-ltb room (length (merged s xs ys)) (omega (arith, h.4, both_long h.1)), h.5) refl)

-- ---- 17

-- neither the numbers of the lists nor the room give it
not_take : (k : ℕ) (a b c : Bool) → cond a (Some Width) (cond b (Some UserBits) (cond c (Some Length) None)) ≡ Some (Tags k) → ⊥
not_take k true b c e = clash cc
not_take k false true c e = clash cc
not_take k false false true e = clash cc
not_take k false false false e = clash cc

not_length : (k : ℕ) (b : Bool) → cond b (Some Length) None ≡ Some (Tags k) → ⊥
not_length k true e = clash cc
not_length k false e = clash cc

not_room : (k : ℕ) → Tags k ≡ Room → ⊥
not_room k e = clash cc

module _ (s : Shape) (xs ys : List ℕ) (room port k : ℕ) where
  tags_of : RefusedBy s xs ys room port (Tags k) → Readable s xs ys × HighBy s xs ys port k
  tags_of (inl h) = absurd (not_take k (width_check s.width).found (user_check s).found (length_check s xs).found h.1)
  tags_of (inr (inl h)) = absurd (not_length k (length_check s ys).found h.2)
  tags_of (inr (inr (inl h))) = (h.1, inl (h.0, high-at s xs k h.2))
  tags_of (inr (inr (inr (inl h)))) = (h.1, inr (h.0, h.2, high-at s ys k h.3))
  tags_of (inr (inr (inr (inr h)))) = absurd (not_room k h.5)

  of_tags : Readable s xs ys → HighBy s xs ys port k → RefusedBy s xs ys room port (Tags k)
  of_tags r (inl h) = inr (inr (inl (h.0, r, at_high s xs k h.1)))
  of_tags r (inr h) = inr (inr (inr (inl (h.0, r, h.1, at_high s ys k h.2))))

  pub tags_there : merge_refusal s xs ys room ≡ Some (named port (Tags k)) → Readable s xs ys × HighBy s xs ys port k
  tags_there e = tags_of (refused_there s xs ys room port (Tags k) e)

  pub tags_back : Readable s xs ys → HighBy s xs ys port k → merge_refusal s xs ys room ≡ Some (named port (Tags k))
  tags_back r h = refused_back s xs ys room port (Tags k) (of_tags r h)

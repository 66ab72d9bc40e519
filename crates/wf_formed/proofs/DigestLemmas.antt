-- The digest of a definition that was read has 32 bytes.
use Rattle.std.proofs.Common.{◌≡◌, ℕ, zero, suc, ◌<◌, List, [], ◌∷◌, ◌++◌, length, subst, arith}
use Rattle.std.specs.Int.{to_be_bytes, w32}
use Rattle.std.specs.List.{AllByRecursion}
use Rattle.std.specs.Prelude.{slice_index}
use Rattle.hex.specs.Hex.{IsBytes}
use Rattle.sha2.specs.Sha256.{digest_bytes, sha256}
use Rattle.sha2.proofs.Facts256.{length-sha256}
use Rattle.wf_json.specs.Json.{json}
use Rattle.wf_form.specs.Fault.{inner_of}
use Rattle.wf_def.specs.DefTree.{DefTree}
use Rattle.wf_reading.specs.Read.{IsRead}

abbrev AreBytes : List ℕ → Type 0
AreBytes xs = AllByRecursion (λ b. b < 256) xs

joined : (xs ys : List ℕ) → AreBytes xs → AreBytes ys → AreBytes (xs ++ ys)
joined [] ys one other = other
joined (x ∷ xs) ys one other = (one.0, joined xs ys one.1 other)

each_byte : (xs : List ℕ) → AreBytes xs → IsBytes xs
each_byte [] all i = omega arith
each_byte (x ∷ xs) all zero = all.0
each_byte (x ∷ xs) all (suc i) = each_byte xs all.1 i

word_bytes : (n : ℕ) → AreBytes (to_be_bytes w32 n)
word_bytes n = (omega arith, (omega arith, (omega arith, (omega arith, tt))))

digest_all : (h : List ℕ) (n : ℕ) → AreBytes (digest_bytes h n)
unfolding digest_bytes
digest_all h zero = tt
digest_all h (suc n) = joined (digest_bytes h n) (to_be_bytes w32 (slice_index h n)) (digest_all h n) (word_bytes (slice_index h n))

sha_bytes : (m : List ℕ) → IsBytes (sha256 m)
unfolding sha256
sha_bytes m = each_byte _ (digest_all _ 8)

pub digest_length : (d : DefTree) → IsRead d → length d.digest ≡ 32
digest_length d r = subst (λ (e : DefTree). length e.digest ≡ 32) r.means (length-sha256 (json (inner_of r.value)))

pub digest_is_bytes : (d : DefTree) → IsRead d → IsBytes d.digest
digest_is_bytes d r = subst (λ (e : DefTree). IsBytes e.digest) r.means (sha_bytes (json (inner_of r.value)))

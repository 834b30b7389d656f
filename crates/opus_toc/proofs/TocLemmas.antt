-- The parts of a TOC byte and the byte of these parts, each made of the other.
use Rattle.std.proofs.Common.{◌≡◌, ℕ, ◌+◌, ◌*◌, ◌/◌, ◌%◌, ◌<◌, Bool, true, false, eq-eqb, ne_eqb, ⊎_elim, arith}
use Rattle.std.proofs.lemmas.Bool.{cases_eq}
use Rattle.opus_toc.specs.Toc.{config_of, stereo_of, code_of, toc_byte}

stereo_of-set : (byte : ℕ) → (byte / 4) % 2 ≡ 1 → stereo_of byte ≡ true
stereo_of-set byte set = eq-eqb ((byte / 4) % 2) 1 set

stereo_of-clear : (byte : ℕ) → (byte / 4) % 2 ≡ 0 → stereo_of byte ≡ false
stereo_of-clear byte clear = ne_eqb ((byte / 4) % 2) 1 (λ e. omega arith)

-- a byte is the one of its parts
pub toc_byte-of_parts : (byte : ℕ)
    → toc_byte (config_of byte) (stereo_of byte) (code_of byte) ≡ byte
toc_byte-of_parts byte =
    ⊎_elim (λ p. rw (stereo_of-set byte p) (omega arith))
    (λ (p : (byte / 4) % 2 ≡ 1 → ⊥). let clear : (byte / 4) % 2 ≡ 0 = omega arith in
    rw (stereo_of-clear byte clear) (omega arith))
    (cases_eq ((byte / 4) % 2) 1)

-- the parts of a byte are those that it was made of
pub config_of-toc_byte : (config : ℕ) (stereo : Bool) (code : ℕ) → code < 4
    → config_of (toc_byte config stereo code) ≡ config
config_of-toc_byte config true code two_bits = omega arith
config_of-toc_byte config false code two_bits = omega arith

pub stereo_of-toc_byte : (config : ℕ) (stereo : Bool) (code : ℕ) → code < 4
    → stereo_of (toc_byte config stereo code) ≡ stereo
stereo_of-toc_byte config true code two_bits =
    stereo_of-set (8 * config + 4 * 1 + code) (omega arith)
stereo_of-toc_byte config false code two_bits =
    stereo_of-clear (8 * config + 4 * 0 + code) (omega arith)

pub code_of-toc_byte : (config : ℕ) (stereo : Bool) (code : ℕ) → code < 4
    → code_of (toc_byte config stereo code) ≡ code
code_of-toc_byte config true code two_bits = omega arith
code_of-toc_byte config false code two_bits = omega arith

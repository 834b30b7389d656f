-- Want of memory is what no check finds.
use Rattle.std.proofs.Common.{◌≡◌, ℕ, ◌+◌, Bool, true, false, not, ◌==◌, ◌||◌, nat_lt, nat_le, if◌then◌else◌, List, length, Option, None, Some, Err}
use Rattle.std.specs.Option.{option_or}
use Rattle.opus_head.specs.ChannelCount.{is_channel_count}
use Rattle.opus_head.specs.HeadFault.{version_in, channels_in, family_in, streams_in, coupled_in, decoded_in, head_size, checked, magic_len, magic_fault, front_fault, known_mapping, mapping_fault, table_fault, end_fault, head_fault}
use Rattle.opus_head.specs.Checks.{outcome}
use Rattle.opus_head.specs.declared.fault.HeadFault.{HeadFault}
use Rattle.opus_head.specs.declared.fault.HeadFault.TheVariants.{Magic, Cut, Version, Channels, Streams, Coupled, MapByte, Extra, NoMemory}

-- this isn't want of memory
abbrev IsOther : Option HeadFault → Type 0
IsOther found = found ≡ Some NoMemory → ⊥

or_other : (first later : Option HeadFault) → IsOther first → IsOther later → IsOther (option_or first later)
or_other None later f l = l
or_other (Some fault) later f l = f

passed_other : (whole bad : Bool) (fault cut : HeadFault) → (fault ≡ NoMemory → ⊥) → (cut ≡ NoMemory → ⊥)
    → IsOther (if whole then (if bad then Some fault else None) else Some cut)
passed_other true true fault cut f c e = f cc
passed_other true false fault cut f c e = cc
passed_other false bad fault cut f c e = c cc

checked_other : (bytes : List ℕ) (size : ℕ) (bad : Bool) (fault : HeadFault) → (fault ≡ NoMemory → ⊥)
    → IsOther (checked bytes size bad fault)
checked_other bytes size bad fault f =
    passed_other (nat_le size (length bytes)) bad fault (Cut (length bytes)) f (λ e. cc)

either_other : (same more : Bool) (place cut : HeadFault) → (place ≡ NoMemory → ⊥) → (cut ≡ NoMemory → ⊥)
    → IsOther (if same then None else if more then Some place else Some cut)
either_other true more place cut p c e = cc
either_other false true place cut p c e = p cc
either_other false false place cut p c e = c cc

unless_other : (none : Bool) (found : Option HeadFault) → IsOther found → IsOther (if none then None else found)
unless_other true found f e = cc
unless_other false found f e = f e

magic_other : (bytes : List ℕ) → IsOther (magic_fault bytes)
magic_other bytes =
    either_other (magic_len bytes == 8) (nat_lt (magic_len bytes) (length bytes)) (Magic (magic_len bytes))
    (Cut (length bytes)) (λ e. cc) (λ e. cc)

front_other : (bytes : List ℕ) → IsOther (front_fault bytes)
front_other bytes =
    let version = checked bytes 9 (nat_lt 15 (version_in bytes)) Version in
    let channels = checked bytes 10 (channels_in bytes == 0) Channels in
    let count = checked bytes 19 (not (is_channel_count (family_in bytes) (channels_in bytes))) Channels in
    or_other version (option_or channels count) (checked_other bytes 9 _ Version (λ e. cc))
    (or_other channels count (checked_other bytes 10 _ Channels (λ e. cc)) (checked_other bytes 19 _ Channels (λ e. cc)))

mapping_other : (bytes : List ℕ) → IsOther (mapping_fault bytes)
mapping_other bytes =
    unless_other (family_in bytes == 3) _ (checked_other bytes (21 + channels_in bytes) _ (MapByte (known_mapping bytes)) (λ e. cc))

table_other : (bytes : List ℕ) → IsOther (table_fault bytes)
table_other bytes =
    let streams = checked bytes 20 (streams_in bytes == 0) Streams in
    let coupled = checked bytes 21 (nat_lt (streams_in bytes) (coupled_in bytes) || nat_lt 255 (decoded_in bytes)) Coupled in
    unless_other (family_in bytes == 0) (option_or streams (option_or coupled (mapping_fault bytes)))
    (or_other streams (option_or coupled (mapping_fault bytes)) (checked_other bytes 20 _ Streams (λ e. cc))
    (or_other coupled (mapping_fault bytes) (checked_other bytes 21 _ Coupled (λ e. cc)) (mapping_other bytes)))

head_other : (bytes : List ℕ) → IsOther (head_fault bytes)
unfolding head_fault
head_other bytes =
    or_other (magic_fault bytes) (option_or (front_fault bytes) (option_or (table_fault bytes) (end_fault bytes))) (magic_other bytes)
    (or_other (front_fault bytes) (option_or (table_fault bytes) (end_fault bytes)) (front_other bytes)
    (or_other (table_fault bytes) (end_fault bytes) (table_other bytes) (checked_other bytes (head_size bytes) _ Extra (λ e. cc))))

memory_found : (found : Option HeadFault) → Err NoMemory ≡ outcome found → found ≡ Some NoMemory
memory_found None e = cc
memory_found (Some fault) e = cc

-- no check answers it
pub memory_never : (bytes : List ℕ) (fault : HeadFault) → Err fault ≡ outcome (head_fault bytes) → fault ≡ NoMemory → ⊥
memory_never bytes fault e is = head_other bytes (memory_found (head_fault bytes) (rw is at e))

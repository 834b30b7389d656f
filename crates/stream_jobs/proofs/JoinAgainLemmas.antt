-- What apart wrote is a store that join takes.
use Rattle.std.proofs.Common.{◌≡◌, ℕ, ◌+◌, ◌≤◌, List, [], ◌∷◌, ◌++◌, length, map, Option, None, inl, inr, refl, sym, ap, ◌∙◌, subst}
use Rattle.std.proofs.lemmas.List.{length-map}
use Rattle.std.specs.List.{AllByRecursion}
use Rattle.job_loop.specs.Shown.{Shown}
use Rattle.job_loop.specs.Meaning.{going, outcome}
use Rattle.job_loop.specs.declared.input_end.InputEnd.TheVariants.{Closed}
use Rattle.rec_store.specs.DemoStore.{demo_head, demo_record}
use Rattle.opus_packet.specs.Value.{PacketValue}
use Rattle.opus_packet.specs.PacketPrefix.{AreBytes}
use Rattle.opus_packet.proofs.BytesLemmas.{AreBytes-left, AreBytes-right}
use Rattle.pack_records.specs.Demo.{StoreRecord, store_of}
use Rattle.pack_records.proofs.StoreFronts.{store_joined}
use Rattle.stream_records.specs.declared.item.StreamsItem.{StreamsItem}
use Rattle.stream_records.specs.Demo as streams_demo
use Rattle.job_ends.specs.Each.{text_of, texts_from, IsWritten, AreWritten}
use Rattle.stream_jobs.specs.Apart.{apart}
use Rattle.stream_jobs.specs.Join.{Part, joined}
use Rattle.stream_jobs.specs.JoinGroups.{AreParts, IsGroup, all_of, groups_text}
use Rattle.stream_jobs.specs.JoinAgain.{with_range, IsJoinedAgain}
use Rattle.job_ends.proofs.EachLemmas.{each_written}
use Rattle.stream_jobs.specs.Refusal.{cut_refusal}
use Rattle.stream_jobs.proofs.GroupsLemmas.{groups-joins}
use Rattle.stream_jobs.proofs.ApartTaken.{apart_made}
use Rattle.stream_jobs.proofs.OwnStores.{AreOwn, stored, records_from, store_ends, part_in, are_parts, joined_text, alike_parts}
use Rattle.stream_jobs.proofs.RecordGroups.{norm_made, HasGroup, dropping, one_group}

-- ---- and of all

map_both : {A B : Type 0} → (f : A → B) (a b : List A) → map f (a ++ b) ≡ map f a ++ map f b
map_both f [] b = refl
map_both f (x ∷ a) b = ap (λ l. f x ∷ l) (map_both f a b)

own_both : (a b : List (Option PacketValue)) → AllByRecursion AreOwn a → AllByRecursion AreOwn b → AllByRecursion AreOwn (a ++ b)
own_both [] b first second = second
own_both (o ∷ a) b first second = (first.0, own_both a b first.1 second)

record HasGroups (streams number : ℕ) (rs : List (Shown StreamsItem)) : Type 0 where
  values : List (Option PacketValue)
  own : AllByRecursion AreOwn values
  groups : List (List Part)
  parts : map part_in values ≡ all_of groups
  each : AllByRecursion (IsGroup streams) groups
  apart_text : texts_from (apart_made streams) number rs ≡ store_of (map stored values)
  norm_written : AreWritten (norm_made streams) number (map (with_range 0) rs)
  norm_text : texts_from (norm_made streams) number (map (with_range 0) rs) ≡ groups_text groups

no_groups : (streams number : ℕ) → HasGroups streams number []
no_groups streams number = record {
  values = [];
  own = tt;
  groups = [];
  parts = refl;
  each = tt;
  apart_text = refl;
  norm_written = tt;
  norm_text = refl;
}

more_groups : (streams number : ℕ) (r : Shown StreamsItem) (rs : List (Shown StreamsItem)) → HasGroup streams r
    → HasGroups streams (number + 1) rs → HasGroups streams number (r ∷ rs)
more_groups streams number r rs g gs =
    let group = map part_in g.values in
    let first = g.aparts number in
    let normal = g.norms number in
    record {
      values = g.values ++ gs.values;
      own = own_both g.values gs.values g.own gs.own;
      groups = group ∷ gs.groups;
      parts = map_both part_in g.values gs.values ∙ ap (λ l. group ++ l) gs.parts;
      each = (
        record { full = length-map g.values part_in ∙ g.full; alike = (g.samples, alike_parts g.samples g.values g.alike) },
        gs.each,
      );
      apart_text = ap (λ m. text_of m ++ texts_from (apart_made streams) (number + 1) rs) first
          ∙ ap (λ l. store_of (map stored g.values) ++ l) gs.apart_text
          ∙ sym (store_joined (map stored g.values) (map stored gs.values))
          ∙ ap store_of (sym (map_both stored g.values gs.values));
      norm_written = (subst IsWritten (sym normal) tt, gs.norm_written);
      norm_text = ap (λ m. text_of m ++ texts_from (norm_made streams) (number + 1) (map (with_range 0) rs)) normal
          ∙ ap (λ l. l ++ texts_from (norm_made streams) (number + 1) (map (with_range 0) rs)) (sym (joined_text g.values))
          ∙ ap (λ l. joined group ++ l) gs.norm_text;
    }

rest_groups : (streams number at : ℕ) (rest : List ℕ) (rs : List (Shown StreamsItem))
    → streams_demo.ShowsRest streams at rest rs → AreWritten (apart_made streams) number rs → HasGroups streams number rs
rest_groups streams number at rest rs (inl early) written =
    let all = subst (AreWritten (apart_made streams) number) early.shows written in
    absurd (subst (λ (s : Shown StreamsItem). IsWritten (apart_made streams number s)) early.early.holds.shows all.0)
rest_groups streams number at rest rs (inr none) written = subst (HasGroups streams number) (sym none.shows) (no_groups streams number)

store_groups : (streams number at : ℕ) (ss : List StoreRecord) (rest : List ℕ) (rs : List (Shown StreamsItem))
    → streams_demo.ShowsStore (dropping streams) at ss rest rs → AreBytes (store_of ss)
    → AreWritten (apart_made streams) number rs → HasGroups streams number rs
store_groups streams number at [] rest rs shows are written = rest_groups streams number at rest rs shows written
store_groups streams number at (s ∷ ss) rest [] shows are written = absurd shows
store_groups streams number at (s ∷ ss) rest (r ∷ rs) shows are written =
    let payload = AreBytes-right (demo_head (length s.payload) s.range) s.payload
    (AreBytes-left (demo_record s.range s.payload) (store_of ss) are) in
    more_groups streams number r rs
    (one_group streams number (at + 8) s.range s.payload r payload shows.0 written.0)
    (store_groups streams (number + 1) (at + (8 + length s.payload)) ss rest rs shows.1
    (AreBytes-right (demo_record s.range s.payload) (store_of ss) are) written.1)

pub joined_again : (streams : ℕ) (x : List ℕ) (rs : List (Shown StreamsItem)) (text : List ℕ) → 1 ≤ streams
    → streams_demo.DemoEnds (dropping streams) x rs None → outcome (apart streams) rs Closed ≡ going text tt
    → IsJoinedAgain streams rs text
joined_again streams x rs text some ends e =
    let front = ends.1 in
    let (written, uncut, is) = (each_written cut_refusal (apart_made streams) rs Closed text).0 e in
    let all = store_groups streams 0 0 front.whole ends.0 rs front.shows
    (AreBytes-left (store_of front.whole) ends.0 (subst AreBytes front.parts front.are_bytes)) written in
    let out = groups_text all.groups in
    record {
      records = records_from 0 all.values;
      ends = store_ends text all.values all.own (is ∙ all.apart_text);
      joined = out;
      joins = groups-joins streams (records_from 0 all.values) out some
          record {
            groups = all.groups;
            parts = subst (AreParts (records_from 0 all.values)) all.parts (are_parts 0 all.values all.own);
            each = all.each;
            text_is = refl;
          };
      norms = (each_written cut_refusal (norm_made streams) (map (with_range 0) rs) Closed out).1 (all.norm_written, tt, sym all.norm_text);
    }

-- The links by which records are looked up. Only private functions cite this, which is this project's own.
use Rattle.std.specs.Prelude.{◌≡◌, ℕ, ◌+◌, ◌*◌, ◌%◌, ◌^◌, ◌<◌, ◌≤◌, List, [], ◌∷◌, length, slice_get, Some}
use Rattle.kept_lines.specs.declared.links.Links.{Links}

-- a hash with one more byte
abbrev pub mixed : ℕ → ℕ → ℕ
mixed hash byte = (hash * 1099511628211 % 2 ^ 64 + byte) % 2 ^ 64

abbrev pub hash_from : ℕ → List ℕ → ℕ
hash_from hash [] = hash
hash_from hash (byte ∷ bytes) = hash_from (mixed hash byte) bytes

abbrev pub hash_of : List ℕ → ℕ
hash_of text = hash_from 0 text

-- the bucket of a text, among so many
abbrev pub bucket_of : ℕ → List ℕ → ℕ
bucket_of count text = hash_of text % count

-- a link leads to the last of the first n texts that is in a bucket, or to none
pub record IsBucketLink (texts : List (List ℕ)) (count bucket n link : ℕ) : Type 0 where
  pub within : link ≤ n
  pub there : (m : ℕ) (text : List ℕ) → link ≡ m + 1 → slice_get texts m ≡ Some text → bucket_of count text ≡ bucket
  pub none : (m : ℕ) (text : List ℕ) → link ≤ m → m < n → slice_get texts m ≡ Some text →
      bucket_of count text ≡ bucket → ⊥

-- these texts are linked
pub record AreLinked (texts : List (List ℕ)) (links : Links) : Type 0 where
  pub some : 0 < length links.last.items
  pub long : length links.before.items ≡ length texts
  pub last : (bucket link : ℕ) → slice_get links.last.items bucket ≡ Some link →
      IsBucketLink texts (length links.last.items) bucket (length texts) link
  pub before : (n link : ℕ) (text : List ℕ) → slice_get links.before.items n ≡ Some link →
      slice_get texts n ≡ Some text →
      IsBucketLink texts (length links.last.items) (bucket_of (length links.last.items) text) n link

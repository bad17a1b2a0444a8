-- Where each number stands in what is hashed first: the six fields, 4 bytes each, in the order of RFC 9106, 3.2, and then the count of each
-- input before its bytes. Assumes nothing.
use mathlib.Core.Path.{◌≡◌, refl, sym, ap, ◌∙◌}
use mathlib.Core.List.{List, ◌++◌}
use Prim.Native.Nat.{ℕ, ◌+◌, ◌≤◌}
use native.Mathlib.Omega.{arith}
use lib.ListN.{length, take, drop, length-append, length-drop}
use lib.Seq.{take-append-le, drop-append-le, drop-append_seam}
use Rattle.params.specs.declared.Params.{Params}
use Rattle.initial.specs.Initial.{le32, counted, header, hash_input}

-- for all numbers
pub record Fields (P : Params) (tag : ℕ) : Type 0 where
  pub lanes : take 4 (header P tag) ≡ le32 P.lanes
  pub tag_length : take 4 (drop 4 (header P tag)) ≡ le32 tag
  pub memory : take 4 (drop 8 (header P tag)) ≡ le32 P.memory
  pub passes : take 4 (drop 12 (header P tag)) ≡ le32 P.passes
  pub version : take 4 (drop 16 (header P tag)) ≡ le32 P.version
  pub algorithm : take 4 (drop 20 (header P tag)) ≡ le32 P.algorithm
  pub bytes : length (header P tag) ≡ 24

pub fields : (P : Params) (tag : ℕ) → Fields P tag
unfolding header
fields P tag =
    record { lanes = refl; tag_length = refl; memory = refl; passes = refl; version = refl; algorithm = refl; bytes = refl }

-- 4 bytes that lie in the first of two parts
within : (n : ℕ) (xs ys : List ℕ) → n + 4 ≤ length xs → take 4 (drop n (xs ++ ys)) ≡ take 4 (drop n xs)
within n xs ys h =
    ap (take 4) (drop-append-le n xs ys (omega arith))
    ∙ take-append-le 4 (drop n xs) ys (omega (arith, length-drop n xs))

-- the count of an input that follows n bytes
count_after : (n : ℕ) (xs ys : List ℕ) → length xs ≡ n → take 4 (drop n (xs ++ counted ys)) ≡ le32 (length ys)
count_after n xs ys e =
    ap (λ (k : ℕ). take 4 (drop k (xs ++ counted ys))) (sym e) ∙ ap (take 4) (drop-append_seam xs (counted ys))

module _ (P : Params) (tag : ℕ) (password salt secret ad : List ℕ) where
  -- what is hashed, up to each input
  abbrev to_password : List ℕ
  to_password = header P tag ++ counted password

  abbrev to_salt : List ℕ
  to_salt = to_password ++ counted salt

  abbrev to_secret : List ℕ
  to_secret = to_salt ++ counted secret

  length-password : length to_password ≡ 28 + length password
  length-password =
      length-append (header P tag) (counted password)
      ∙ omega (arith, (fields P tag).bytes, length-append (le32 (length password)) password)

  length-salt : length to_salt ≡ 32 + length password + length salt
  length-salt =
      length-append to_password (counted salt) ∙ omega (arith, length-password, length-append (le32 (length salt)) salt)

  length-secret : length to_secret ≡ 36 + length password + length salt + length secret
  length-secret =
      length-append to_salt (counted secret) ∙ omega (arith, length-salt, length-append (le32 (length secret)) secret)

  -- the counts, each before its bytes
  pub record Counts : Type 0 where
    pub password_count : take 4 (drop 24 (hash_input P tag password salt secret ad)) ≡ le32 (length password)
    pub salt_count : take 4 (drop (28 + length password) (hash_input P tag password salt secret ad)) ≡ le32 (length salt)
    pub secret_count : take 4 (drop (32 + length password + length salt) (hash_input P tag password salt secret ad)) ≡ le32 (length secret)
    pub ad_count : take 4 (drop (36 + length password + length salt + length secret) (hash_input P tag password salt secret ad)) ≡ le32 (length ad)

  pub counts : Counts
  unfolding hash_input
  counts =
      record {
        password_count =
            within 24 to_secret (counted ad) (omega (arith, length-secret))
            ∙ within 24 to_salt (counted secret) (omega (arith, length-salt))
            ∙ within 24 to_password (counted salt) (omega (arith, length-password))
            ∙ count_after 24 (header P tag) password (fields P tag).bytes;
        salt_count =
            within (28 + length password) to_secret (counted ad) (omega (arith, length-secret))
            ∙ within (28 + length password) to_salt (counted secret) (omega (arith, length-salt))
            ∙ count_after (28 + length password) to_password salt length-password;
        secret_count =
            within (32 + length password + length salt) to_secret (counted ad) (omega (arith, length-secret))
            ∙ count_after (32 + length password + length salt) to_salt secret length-salt;
        ad_count = count_after (36 + length password + length salt + length secret) to_secret ad length-secret;
      }

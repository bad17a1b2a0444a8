-- What the small figures hash: "password" with "somesalt", in the least memory that one lane has. Assumes nothing.
use mathlib.Core.List.{List, [], ◌∷◌}
use Prim.Native.Nat.{ℕ}
use Rattle.std.specs.Prelude.{None}
use Rattle.params.specs.declared.Params.{Params}

-- 8 KiB and one lane, for an algorithm, a version and a number of passes
abbrev pub smallest : ℕ → ℕ → ℕ → Params
smallest algorithm version passes =
    record { algorithm = algorithm; version = version; memory = 8; passes = passes; lanes = 1; configured = None }

abbrev pub password : List ℕ
password = 112 ∷ 97 ∷ 115 ∷ 115 ∷ 119 ∷ 111 ∷ 114 ∷ 100 ∷ []

abbrev pub salt : List ℕ
salt = 115 ∷ 111 ∷ 109 ∷ 101 ∷ 115 ∷ 97 ∷ 108 ∷ 116 ∷ []

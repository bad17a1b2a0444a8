-- A text at the start of a line, one byte more; and the hex digits of one byte more. Assumes nothing.
use Prim.Native.Nat.{ℕ, suc, ◌+◌, ◌*◌, ◌/◌, ◌%◌, ◌≤◌, ◌<◌}
use mathlib.Core.List.{List, [], ◌∷◌, ◌++◌, append_assoc}
use mathlib.Core.Path.{◌≡◌, refl, sym, ap, ◌∙◌}
use native.Mathlib.Numerals.{add-one}
use native.Mathlib.Omega.{arith}
use borrow.Author.Tests.{lt-ltb, le-ltb}
use lib.ListN.{length, take, drop, get_or, set, length-append, length-drop}
use lib.Seq.{drop-cons, drop-drop, set-append_seam, take_all, take-suc}
use mathlib.Core.Bool.{true}
use borrow.Author.Tests.{le-leb}
use Rattle.hex_text.specs.Hex.{hex_of, hex_digits, fits}
use Rattle.hex_text.specs.Promises.{WritePromise}
use Rattle.hex_text.proofs.Text.{length_digits}
use Rattle.case_line.specs.Lines.{tag_word, newline, tag_text, numbered_text, on_line, Written}

-- all of a list was copied to the start of a line
pub copied : (t d : List ℕ) {p : List ℕ} {n : ℕ} → n ≡ length t → p ≡ t → Written t d (p ++ drop n d) n
copied t d e h = record { bytes = rw (h, e); count = e }

push : (t d : List ℕ) (x : ℕ) → length t < length d → set (on_line t d) (length t) x ≡ on_line (t ++ (x ∷ [])) d
push t d x h =
    let more : suc (length t) ≡ length (t ++ (x ∷ [])) = simp length-append (omega arith) in
    ap (λ (l : List ℕ). set (t ++ l) (length t) x) (drop-cons d (length t) 0 h)
    ∙ set-append_seam t _ (drop (suc (length t)) d) x
    ∙ sym (append_assoc t (x ∷ []) (drop (suc (length t)) d))
    ∙ ap (λ (n : ℕ). (t ++ (x ∷ [])) ++ drop n d) more

-- one byte more
pub pushed : {t d l : List ℕ} {i j : ℕ} (x : ℕ) → Written t d l i → i < length d → j ≡ i + 1 → Written (t ++ (x ∷ [])) d (set l i x) j
pushed {t} {d} {l} {i} {j} x w h e =
    record { bytes = rw (w.bytes, w.count) (push t d x (omega (arith, w.count))); count = simp length-append (omega (arith, w.count)) }

-- a text by another name
pub renamed : {t u d l : List ℕ} {i : ℕ} → t ≡ u → Written t d l i → Written u d l i
renamed e w = rw e at w

-- a line keeps its length
pub same_length : {t d l : List ℕ} {i : ℕ} → Written t d l i → i ≤ length d → length l ≡ length d
same_length {t} {d} {l} {i} w h = ap length w.bytes ∙ simp (length-append, length-drop) (omega (arith, w.count))

-- the text is in the line, and is all of the first bytes that its count names
pub within : {t d l : List ℕ} {i : ℕ} → Written t d l i → i ≤ length l
within {t} {d} {l} {i} w = omega (arith, w.count, ap length w.bytes, length-append t (drop (length t) d))

hex_snoc : (bs : List ℕ) (b : ℕ) → hex_digits (bs ++ (b ∷ [])) ≡ hex_digits bs ++ hex_of b
unfolding hex_digits
hex_snoc [] b = refl
hex_snoc (x ∷ bs) b = ap (λ (l : List ℕ). hex_of x ++ l) (hex_snoc bs b)

-- the digits of one byte more
pub hex_more : (tag : List ℕ) (i : ℕ) → i < length tag → hex_digits (take (i + 1) tag) ≡ hex_digits (take i tag) ++ hex_of (get_or tag i 0)
hex_more tag i h = rw (add-one, take-suc tag i 0) (hex_snoc (take i tag) (get_or tag i 0))

two : (t u : List ℕ) (x y : ℕ) → ((t ++ u) ++ (x ∷ [])) ++ (y ∷ []) ≡ t ++ (u ++ (x ∷ y ∷ []))
two t u x y = simp append_assoc

-- the text of a tag, one byte more, and its end
pub tag_more : (tag pair : List ℕ) (i : ℕ) → i < length tag → pair ≡ hex_of (get_or tag i 0)
    → ((tag_word ++ hex_digits (take i tag)) ++ (get_or pair 0 0 ∷ [])) ++ (get_or pair 1 0 ∷ []) ≡ tag_word ++ hex_digits (take (i + 1) tag)
tag_more tag pair i h e =
    rw e (two tag_word (hex_digits (take i tag)) _ _ ∙ ap (λ (l : List ℕ). tag_word ++ l) (sym (hex_more tag i h)))

pub tag_end : (tag : List ℕ) (i : ℕ) → length tag ≤ i → (tag_word ++ hex_digits (take i tag)) ++ newline ≡ tag_text tag
tag_end tag i h = rw (take_all i tag h)

-- the text of a number, of one digit and of two
pub one_digit : (words : List ℕ) (n : ℕ) → n < 10 → (words ++ ((48 + n) ∷ [])) ++ newline ≡ numbered_text words n
one_digit words n h = rw (lt-ltb n 10 h)

pub two_digits : (words : List ℕ) (n : ℕ) → 10 ≤ n → ((words ++ ((48 + n / 10) ∷ [])) ++ ((48 + n % 10) ∷ [])) ++ newline ≡ numbered_text words n
two_digits words n h = rw (le-ltb n 10 h) (simp append_assoc)

-- the line of `write_number`: the words were copied, and the digits and the newline are set after them
one_line : (words line : List ℕ) (n : ℕ) → n < 10 → length words + 3 ≤ length line
    → Written (numbered_text words n) line (set (set (words ++ drop (length words) line) (length words) (48 + n)) (length words + 1) 10) (length words + 2)
one_line words line n h room =
    renamed (one_digit words n h) (pushed 10 (pushed (48 + n) (copied words line refl refl) (omega arith) refl) (omega arith) (omega arith))

two_line : (words line : List ℕ) (n : ℕ) → 10 ≤ n → length words + 3 ≤ length line
    → Written (numbered_text words n) line
    (set (set (set (words ++ drop (length words) line) (length words) (48 + n / 10)) (length words + 1) (48 + n % 10)) (length words + 2) 10)
    (length words + 3)
two_line words line n h room =
    renamed (two_digits words n h)
    (pushed 10 (pushed (48 + n % 10) (pushed (48 + n / 10) (copied words line refl refl) (omega arith) refl) (omega arith) (omega arith)) (omega arith) (omega arith))

-- the same as equations, for `grind`
pub one_bytes : (words line : List ℕ) (n : ℕ) → n < 10 → length words + 3 ≤ length line
    → set (set (words ++ drop (length words) line) (length words) (48 + n)) (length words + 1) 10 ≡ on_line (numbered_text words n) line
one_bytes words line n h room = (one_line words line n h room).bytes

pub two_bytes : (words line : List ℕ) (n : ℕ) → 10 ≤ n → length words + 3 ≤ length line
    → set (set (set (words ++ drop (length words) line) (length words) (48 + n / 10)) (length words + 1) (48 + n % 10)) (length words + 2) 10
    ≡ on_line (numbered_text words n) line
two_bytes words line n h room = (two_line words line n h room).bytes

pub one_count : (words : List ℕ) (n : ℕ) → n < 10 → length (numbered_text words n) ≡ length words + 2
one_count words n h = rw (lt-ltb n 10 h) (simp length-append (omega arith))

pub two_count : (words : List ℕ) (n : ℕ) → 10 ≤ n → length (numbered_text words n) ≡ length words + 3
two_count words n h = rw (le-ltb n 10 h) (simp length-append (omega arith))

-- the line of a tag: the digits were written behind `tag `, and the newline is set after them
pub tag_line : (tag line word text : List ℕ) (n : ℕ) → word ≡ tag_word → WritePromise tag (drop 4 line) n text → 5 + 2 * length tag ≤ length line
    → Written (tag_text tag) line (word ++ set text n 10) (4 + n + 1)
tag_line tag line word text n e p room =
    let y : fits tag (drop 4 line) ≡ true = le-leb (2 * length tag) (length (drop 4 line)) (omega (arith, length-drop 4 line)) in
    let r : n ≡ length (hex_digits tag) = rw y at p.count ∙ sym (length_digits tag) in
    let t : text ≡ on_line (hex_digits tag) (drop 4 line) = rw (y, ← length_digits tag) at p.content in
    let past : 4 + length (hex_digits tag ++ newline) ≡ length (tag_text tag) = omega arith in
    record {
      bytes = rw (e, t, r, push (hex_digits tag) (drop 4 line) 10 (omega (arith, length-drop 4 line, length_digits tag)))
          (ap (λ (l : List ℕ). tag_text tag ++ l) (drop-drop (length (hex_digits tag ++ newline)) 4 line ∙ ap (λ (k : ℕ). drop k line) past));
      count = simp length-append (omega (arith, r));
    }

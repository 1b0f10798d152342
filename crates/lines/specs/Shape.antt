-- the shape of numbers and lines
use Rattle.std.specs.Prelude.{◌≡◌, ℕ, ◌+◌, ◌-◌, ◌*◌, Bool, true, cond, not, ◌&&◌, ◌||◌, List, [], ◌∷◌, length, drop, Some, None, Ok, Err, codes, Option, Result, MatchOption, ◌==◌, nat_le, nat_lt, slice_index}
use Rattle.std.specs.Borrow.{Bor}
use Rattle.lines.specs.declared.lines.Key.{Key}
use Rattle.lines.specs.declared.lines.Key.TheVariants as key
use Rattle.lines.specs.declared.lines.Cut.{Cut}
use Rattle.lines.specs.declared.lines.Line.{Line}
use Rattle.lines.specs.declared.lines.Line.TheVariants.{Net, Input, Gate, Out, End}
use Rattle.lines.specs.declared.faults.LineFault.{LineFault}
use Rattle.lines.specs.declared.faults.LineFault.TheVariants.{Shape}

abbrev pub is_digit : ℕ → Bool
is_digit c = nat_le 48 c && nat_le c 57

abbrev pub all_digits : List ℕ → Bool
all_digits [] = true
all_digits (c ∷ cs) = is_digit c && all_digits cs

-- the number that digits write after the number so far
abbrev pub value_on : ℕ → List ℕ → ℕ
value_on n [] = n
value_on n (c ∷ cs) = value_on (10 * n + (c - 48)) cs

-- one to five digits, with no leading zero but for 0
abbrev pub is_number : List ℕ → Bool
is_number bs = nat_lt 0 (length bs) && nat_le (length bs) 5 && (nat_lt (length bs) 2 || not (slice_index bs 0 == 48)) && all_digits bs

abbrev pub read_number : List ℕ → Result ℕ LineFault
read_number bs = cond (is_number bs) (Ok (value_on 0 bs)) (Err Shape)

-- a byte in front of what stands before the mark
abbrev pub in_front : ℕ → Option (List ℕ × List ℕ) → Option (List ℕ × List ℕ)
in_front c None = None
in_front c (Some (before, after)) = Some (c ∷ before, after)

-- what stands before and after the first byte that is the mark
abbrev pub cut_at : ℕ → List ℕ → Option (List ℕ × List ℕ)
cut_at mark [] = None
cut_at mark (c ∷ cs) = cond (c == mark) (Some ([], cs)) (in_front c (cut_at mark cs))

abbrev pub Cuts : ℕ → List ℕ → Option Cut → Type 0
Cuts mark bs r = MatchOption r (cut_at mark bs ≡ None) (λ k. cut_at mark bs ≡ Some (k.before.now, k.after.now))

-- the key stands at the front of the bytes
abbrev pub same_at : List ℕ → List ℕ → ℕ → Bool
same_at [] bs i = true
same_at (k ∷ ks) bs i = slice_index bs i == k && same_at ks bs (i + 1)

abbrev pub begins : List ℕ → List ℕ → Bool
begins ks bs = nat_le (length ks) (length bs) && same_at ks bs 0

abbrev pub key_text : Key → List ℕ
key_text key.Net = codes "net="
key_text key.Input = codes "in="
key_text key.Gate = codes "and="
key_text key.Out = codes "out="
key_text key.End = codes "end="

-- the key and what follows it, where the line begins with that key
abbrev pub keyed : Key → List ℕ → Option (Key × List ℕ) → Option (Key × List ℕ)
keyed k bs other = cond (begins (key_text k) bs) (Some (k, drop (length (key_text k)) bs)) other

abbrev pub key_of : List ℕ → Option (Key × List ℕ)
key_of bs = keyed key.Net bs (keyed key.Input bs (keyed key.Gate bs (keyed key.Out bs (keyed key.End bs None))))

abbrev pub Splits : List ℕ → Option (Key × Bor (List ℕ)) → Type 0
Splits bs r = MatchOption r (key_of bs ≡ None) (λ k. key_of bs ≡ Some (k.0, k.1.now))

-- the key of a line
abbrev pub kind_of : Line → Key
kind_of (Net n) = key.Net
kind_of (Input n) = key.Input
kind_of (Gate a b) = key.Gate
kind_of (Out e) = key.Out
kind_of (End n) = key.End

-- a line with one number
abbrev pub one : (ℕ → Line) → Result ℕ LineFault → Result Line LineFault
one make (Ok n) = Ok (make n)
one make (Err e) = Err e

-- a gate line with two numbers
abbrev pub two : Result ℕ LineFault → Result ℕ LineFault → Result Line LineFault
two (Ok a) (Ok b) = Ok (Gate a b)
two (Ok a) (Err e) = Err e
two (Err e) r = Err e

abbrev pub pair_of : Option (List ℕ × List ℕ) → Result Line LineFault
pair_of None = Err Shape
pair_of (Some (a, b)) = two (read_number a) (read_number b)

-- a number, a comma and a number
abbrev pub read_pair : List ℕ → Result Line LineFault
read_pair bs = pair_of (cut_at 44 bs)

abbrev pub read_keyed : Option (Key × List ℕ) → Result Line LineFault
read_keyed None = Err Shape
read_keyed (Some (key.Net, rest)) = one Net (read_number rest)
read_keyed (Some (key.Input, rest)) = one Input (read_number rest)
read_keyed (Some (key.Gate, rest)) = read_pair rest
read_keyed (Some (key.Out, rest)) = one Out (read_number rest)
read_keyed (Some (key.End, rest)) = one End (read_number rest)

-- a line, without its end
abbrev pub read_line : List ℕ → Result Line LineFault
read_line bs = read_keyed (key_of bs)

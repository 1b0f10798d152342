-- a number or a line is read from what is written of it, and from nothing else
use Rattle.std.proofs.Common.{◌≡◌, ℕ, zero, suc, ◌+◌, ◌^◌, ◌<◌, Bool, true, false, cond, not, ◌&&◌, ◌||◌, eqb, ltb, leb, ◌⊎◌, List, [], ◌∷◌, ◌++◌, length, get_or, drop, Some, None, Ok, Err, decimal, Option, Result, sym, refl, ap, ◌∙◌, subst, inl, inr, ⊎_elim, arith, rules}
use Rattle.std.proofs.lemmas.List.Prefix.{front_from_reads}
use Rattle.std.proofs.lemmas.Fmt.{decimal-digits_value, digits_decimal, digits_value-decimal, length-decimal-le, decimal_digit, decimal_nonempty, first_decimal}
use Rattle.std.proofs.ByRecursion.{All-append, All-from_get_or}
use Rattle.std.proofs.lemmas.Str.Parse.{IsNumeralModel, numerals_by_fold, digits_value_short, not_in_digits}
use Rattle.std.proofs.lemmas.Bool.{eqb-true, and_parts, and_from, or_cases, or_right, ltb-true, leb-true, lt-ltb, le-leb, not-true, eqb-false, ne_eqb}
use Rattle.std.proofs.lemmas.Bool.Decides.{nat_tests}
use Rattle.lines.specs.declared.faults.LineFault.{LineFault}
use Rattle.lines.specs.declared.faults.LineFault.TheVariants.{Shape}
use Rattle.lines.specs.declared.lines.Key.{Key}
use Rattle.lines.specs.declared.lines.Key.TheVariants as key
use Rattle.lines.specs.declared.lines.Line.{Line}
use Rattle.lines.specs.declared.lines.Line.TheVariants.{Net, Input, Gate, Out, End}
use Rattle.lines.specs.Written.{line_text, Short}
use Rattle.lines.specs.Shape.{all_digits, value_on, is_number, read_number, cut_at, same_at, begins, key_text, keyed, key_of, one, two, pair_of, read_keyed, read_line}
use Rattle.lines.proofs.Cuts.{Lacks, Parts, cut_parts, cut-found}

own : IsNumeralModel (λ ds. all_digits ds ≡ true) (value_on 0)
own = numerals_by_fold _ (search rules) value_on (search rules)

abbrev no_zero : List ℕ → Bool
no_zero bs = ltb (length bs) 2 || not (eqb (get_or bs 0 0) 48)

below_64 : (n : ℕ) → n < 100000 → n < 2 ^ 64
below_64 n h = omega arith

zero-alone : (n : ℕ) → n < 100000 → no_zero (decimal n) ≡ true
zero-alone zero h = ap no_zero (decimal_digit 0 (omega arith))
zero-alone (suc n) h =
    let first = first_decimal (suc n) (omega arith) (below_64 (suc n) h) in
    or_right (ltb (length (decimal (suc n))) 2) (not (eqb (get_or (decimal (suc n)) 0 0) 48)) (ap not (ne_eqb _ 48 (λ e. omega arith)))

pub reads_decimal : (n : ℕ) → n < 100000 → read_number (decimal n) ≡ Ok n
reads_decimal n h =
    let small = below_64 n h in
    let is : is_number (decimal n) ≡ true =
    and_from _ _ (and_from _ _ (and_from _ _ (lt-ltb _ _ (decimal_nonempty n small)) (le-leb _ _ (length-decimal-le 5 n (omega arith) (omega arith) small))) (zero-alone n h)) (digits_decimal own n small) in
    ap (λ b. cond b (Ok (value_on 0 (decimal n))) (Err Shape)) is ∙ ap (λ m. Ok m) (digits_value-decimal own n small)

alone : (bs : List ℕ) → 0 < length bs → no_zero bs ≡ true → get_or bs 0 0 ≡ 48 → length bs ≡ 1
alone bs some z e =
    ⊎_elim (λ t. let short = ltb-true (length bs) 2 t in omega arith) (λ t. absurd (eqb-false _ 48 (not-true _ t) e)) (or_cases (ltb (length bs) 2) (not (eqb (get_or bs 0 0) 48)) z)

is-decimal : (bs : List ℕ) → is_number bs ≡ true → (bs ≡ decimal (value_on 0 bs)) × (value_on 0 bs < 100000)
is-decimal bs e =
    let p = and_parts (ltb 0 (length bs) && leb (length bs) 5 && no_zero bs) (all_digits bs) e in
    let q = and_parts (ltb 0 (length bs) && leb (length bs) 5) (no_zero bs) p.0 in
    let r = and_parts (ltb 0 (length bs)) (leb (length bs) 5) q.0 in
    let some = ltb-true 0 (length bs) r.0 in
    let short = digits_value_short own bs 5 p.1 (leb-true (length bs) 5 r.1) in
    (sym (decimal-digits_value own bs p.1 some (alone bs some q.1) (omega arith)), short)

number_by : (bs : List ℕ) (n : ℕ) (t : Bool) → is_number bs ≡ t → cond t (Ok (value_on 0 bs)) (Err Shape) ≡ Ok n → (bs ≡ decimal n) × (n < 100000)
number_by bs n true e h =
    let same : value_on 0 bs ≡ n = cc in
    subst (λ m. (bs ≡ decimal m) × (m < 100000)) same (is-decimal bs e)
number_by bs n false e h = let z : ◌≡◌ {A = ℕ} 0 1 = cc in absurd (omega arith)

pub number-written : (bs : List ℕ) (n : ℕ) → read_number bs ≡ Ok n → (bs ≡ decimal n) × (n < 100000)
number-written bs n h = number_by bs n (is_number bs) refl h

pub decimal_lacks : (mark n : ℕ) → mark < 48 → n < 100000 → Lacks mark (decimal n)
decimal_lacks mark n low h = All-from_get_or (λ c. c ≡ mark → ⊥) (decimal n) 0 (not_in_digits own (decimal n) mark (digits_decimal own n (below_64 n h)) (λ k. omega arith))

-- keys
key-net : (rest : List ℕ) → key_of (key_text key.Net ++ rest) ≡ Some (key.Net, rest)
key-net rest = grind (arith, nat_tests)

key-input : (rest : List ℕ) → key_of (key_text key.Input ++ rest) ≡ Some (key.Input, rest)
key-input rest = grind (arith, nat_tests)

key-gate : (rest : List ℕ) → key_of (key_text key.Gate ++ rest) ≡ Some (key.Gate, rest)
key-gate rest = grind (arith, nat_tests)

key-out : (rest : List ℕ) → key_of (key_text key.Out ++ rest) ≡ Some (key.Out, rest)
key-out rest = grind (arith, nat_tests)

key-end : (rest : List ℕ) → key_of (key_text key.End ++ rest) ≡ Some (key.End, rest)
key-end rest = grind (arith, nat_tests)

same_reads : (ks bs : List ℕ) (i : ℕ) → same_at ks bs i ≡ true → (j : ℕ) → j < length ks → get_or bs (i + j) 0 ≡ get_or ks j 0
same_reads [] bs i h j l = absurd (omega arith)
same_reads (k ∷ ks) bs i h zero l = ap (λ m. get_or bs m 0) (omega arith) ∙ eqb-true _ k (and_parts (eqb (get_or bs i 0) k) (same_at ks bs (i + 1)) h).0
same_reads (k ∷ ks) bs i h (suc j) l =
    let e : i + suc j ≡ (i + 1) + j = omega arith in
    ap (λ m. get_or bs m 0) e ∙ same_reads ks bs (i + 1) (and_parts (eqb (get_or bs i 0) k) (same_at ks bs (i + 1)) h).1 j (omega arith)

begins-front : (ks bs : List ℕ) → begins ks bs ≡ true → bs ≡ ks ++ drop (length ks) bs
begins-front ks bs h =
    let p = and_parts (leb (length ks) (length bs)) (same_at ks bs 0) h in
    front_from_reads 0 bs ks (leb-true _ _ p.0) (λ i l. let e : i ≡ 0 + i = omega arith in ap (λ m. get_or bs m 0) e ∙ same_reads ks bs 0 p.1 i l)

-- the bytes that a key and what follows it stand for
abbrev Front : List ℕ → Option (Key × List ℕ) → Type 0
Front bs None = Unit {0}
Front bs (Some (k, rest)) = bs ≡ key_text k ++ rest

keyed_by : (k : Key) (bs : List ℕ) (o : Option (Key × List ℕ)) (t : Bool) → begins (key_text k) bs ≡ t → Front bs o → Front bs (cond t (Some (k, drop (length (key_text k)) bs)) o)
keyed_by k bs o true e h = begins-front (key_text k) bs e
keyed_by k bs o false e h = h

keyed-front : (k : Key) (bs : List ℕ) (o : Option (Key × List ℕ)) → Front bs o → Front bs (keyed k bs o)
keyed-front k bs o h = keyed_by k bs o (begins (key_text k) bs) refl h

key-front : (bs : List ℕ) → Front bs (key_of bs)
key-front bs = keyed-front key.Net bs _ (keyed-front key.Input bs _ (keyed-front key.Gate bs _ (keyed-front key.Out bs _ (keyed-front key.End bs None tt))))

-- lines
pub reads_line : (l : Line) → Short l → read_line (line_text l) ≡ Ok l
reads_line (Net n) h = ap read_keyed (key-net (decimal n)) ∙ ap (one Net) (reads_decimal n h)
reads_line (Input n) h = ap read_keyed (key-input (decimal n)) ∙ ap (one Input) (reads_decimal n h)
reads_line (Gate a b) h =
    ap read_keyed (key-gate (decimal a ++ 44 ∷ decimal b))
    ∙ ap pair_of (cut-found 44 (decimal a) (decimal b) (decimal_lacks 44 a (omega arith) h.0))
    ∙ (λ i. two (reads_decimal a h.0 i) (reads_decimal b h.1 i))
reads_line (Out e) h = ap read_keyed (key-out (decimal e)) ∙ ap (one Out) (reads_decimal e h)
reads_line (End n) h = ap read_keyed (key-end (decimal n)) ∙ ap (one End) (reads_decimal n h)

one_ok : (make : ℕ → Line) (r : Result ℕ LineFault) (l : Line) → one make r ≡ Ok l → (n : ℕ) × (r ≡ Ok n) × (make n ≡ l)
one_ok make (Ok n) l h = (n, refl, cc)
one_ok make (Err e) l h = let z : ◌≡◌ {A = ℕ} 0 1 = cc in absurd (omega arith)

two_ok : (r s : Result ℕ LineFault) (l : Line) → two r s ≡ Ok l → (a : ℕ) × (b : ℕ) × (r ≡ Ok a) × (s ≡ Ok b) × (Gate a b ≡ l)
two_ok (Ok a) (Ok b) l h = (a, b, refl, refl, cc)
two_ok (Ok a) (Err e) l h = let z : ◌≡◌ {A = ℕ} 0 1 = cc in absurd (omega arith)
two_ok (Err e) s l h = let z : ◌≡◌ {A = ℕ} 0 1 = cc in absurd (omega arith)

-- the bytes are those that are written of the line
abbrev Is : List ℕ → Line → Type 0
Is bs l = (bs ≡ line_text l) × Short l

one_written : (k : Key) (make : ℕ → Line) (rest : List ℕ) (l : Line) → ((n : ℕ) → line_text (make n) ≡ key_text k ++ decimal n) → ((n : ℕ) → n < 100000 → Short (make n)) → one make (read_number rest) ≡ Ok l → Is (key_text k ++ rest) l
one_written k make rest l is short h =
    let p = one_ok make (read_number rest) l h in
    let q = number-written rest p.0 p.1 in
    subst (Is (key_text k ++ rest)) p.2 (ap (λ x. key_text k ++ x) q.0 ∙ sym (is p.0), short p.0 q.1)

pair_written : (rest : List ℕ) (l : Line) (o : Option (List ℕ × List ℕ)) → Parts 44 rest o → pair_of o ≡ Ok l → Is (key_text key.Gate ++ rest) l
pair_written rest l None parts h = let z : ◌≡◌ {A = ℕ} 0 1 = cc in absurd (omega arith)
pair_written rest l (Some (x, y)) parts h =
    let p = two_ok (read_number x) (read_number y) l h in
    let q = number-written x p.0 p.2 in
    let r = number-written y p.1 p.3 in
    subst (Is (key_text key.Gate ++ rest)) p.4 (ap (λ z. key_text key.Gate ++ z) (parts.0 ∙ (λ i. q.0 i ++ 44 ∷ r.0 i)), (q.1, r.1))

keyed-written : (bs : List ℕ) (l : Line) (o : Option (Key × List ℕ)) → Front bs o → read_keyed o ≡ Ok l → Is bs l
keyed-written bs l None front h = let z : ◌≡◌ {A = ℕ} 0 1 = cc in absurd (omega arith)
keyed-written bs l (Some (key.Net, rest)) front h = subst (λ x. Is x l) (sym front) (one_written key.Net Net rest l (λ n. refl) (λ n small. small) h)
keyed-written bs l (Some (key.Input, rest)) front h = subst (λ x. Is x l) (sym front) (one_written key.Input Input rest l (λ n. refl) (λ n small. small) h)
keyed-written bs l (Some (key.Gate, rest)) front h = subst (λ x. Is x l) (sym front) (pair_written rest l (cut_at 44 rest) (cut_parts 44 rest) h)
keyed-written bs l (Some (key.Out, rest)) front h = subst (λ x. Is x l) (sym front) (one_written key.Out Out rest l (λ n. refl) (λ n small. small) h)
keyed-written bs l (Some (key.End, rest)) front h = subst (λ x. Is x l) (sym front) (one_written key.End End rest l (λ n. refl) (λ n small. small) h)

pub line-written : (bs : List ℕ) (l : Line) → read_line bs ≡ Ok l → (bs ≡ line_text l) × Short l
line-written bs l h = keyed-written bs l (key_of bs) (key-front bs) h

-- a line has no byte 10 within
key_lacks : (k : Key) → Lacks 10 (key_text k)
key_lacks key.Net = (λ e. omega arith, (λ e. omega arith, (λ e. omega arith, (λ e. omega arith, tt))))
key_lacks key.Input = (λ e. omega arith, (λ e. omega arith, (λ e. omega arith, tt)))
key_lacks key.Gate = (λ e. omega arith, (λ e. omega arith, (λ e. omega arith, (λ e. omega arith, tt))))
key_lacks key.Out = (λ e. omega arith, (λ e. omega arith, (λ e. omega arith, (λ e. omega arith, tt))))
key_lacks key.End = (λ e. omega arith, (λ e. omega arith, (λ e. omega arith, (λ e. omega arith, tt))))

keyed_lacks : (k : Key) (bs : List ℕ) → Lacks 10 bs → Lacks 10 (key_text k ++ bs)
keyed_lacks k bs h = All-append (λ c. c ≡ 10 → ⊥) (key_text k) bs (key_lacks k) h

number_lacks : (n : ℕ) → n < 100000 → Lacks 10 (decimal n)
number_lacks n h = decimal_lacks 10 n (omega arith) h

pub line_lacks : (l : Line) → Short l → Lacks 10 (line_text l)
line_lacks (Net n) h = keyed_lacks key.Net (decimal n) (number_lacks n h)
line_lacks (Input n) h = keyed_lacks key.Input (decimal n) (number_lacks n h)
line_lacks (Gate a b) h =
    keyed_lacks key.Gate (decimal a ++ 44 ∷ decimal b) (All-append (λ c. c ≡ 10 → ⊥) (decimal a) (44 ∷ decimal b) (number_lacks a h.0) (λ e. omega arith, number_lacks b h.1))
line_lacks (Out e) h = keyed_lacks key.Out (decimal e) (number_lacks e h)
line_lacks (End n) h = keyed_lacks key.End (decimal n) (number_lacks n h)

-- a line that is not read has no known shape
number-fault_by : (bs : List ℕ) (e : LineFault) (t : Bool) → cond t (Ok (value_on 0 bs)) (Err Shape) ≡ Err e → e ≡ Shape
number-fault_by bs e true h = let z : ◌≡◌ {A = ℕ} 0 1 = cc in absurd (omega arith)
number-fault_by bs e false h = cc

number-fault : (bs : List ℕ) (e : LineFault) → read_number bs ≡ Err e → e ≡ Shape
number-fault bs e h = number-fault_by bs e (is_number bs) h

one-fault : (make : ℕ → Line) (r : Result ℕ LineFault) (e : LineFault) → one make r ≡ Err e → r ≡ Err e
one-fault make (Ok n) e h = let z : ◌≡◌ {A = ℕ} 0 1 = cc in absurd (omega arith)
one-fault make (Err d) e h = cc

two-fault : (r s : Result ℕ LineFault) (e : LineFault) → two r s ≡ Err e → (r ≡ Err e) ⊎ (s ≡ Err e)
two-fault (Ok a) (Ok b) e h = let z : ◌≡◌ {A = ℕ} 0 1 = cc in absurd (omega arith)
two-fault (Ok a) (Err d) e h = inr cc
two-fault (Err d) s e h = inl cc

pair_fault : (o : Option (List ℕ × List ℕ)) (e : LineFault) → pair_of o ≡ Err e → e ≡ Shape
pair_fault None e h = cc
pair_fault (Some (x, y)) e h = ⊎_elim (number-fault x e) (number-fault y e) (two-fault (read_number x) (read_number y) e h)

keyed-fault : (o : Option (Key × List ℕ)) (e : LineFault) → read_keyed o ≡ Err e → e ≡ Shape
keyed-fault None e h = cc
keyed-fault (Some (key.Net, rest)) e h = number-fault rest e (one-fault Net (read_number rest) e h)
keyed-fault (Some (key.Input, rest)) e h = number-fault rest e (one-fault Input (read_number rest) e h)
keyed-fault (Some (key.Gate, rest)) e h = pair_fault (cut_at 44 rest) e h
keyed-fault (Some (key.Out, rest)) e h = number-fault rest e (one-fault Out (read_number rest) e h)
keyed-fault (Some (key.End, rest)) e h = number-fault rest e (one-fault End (read_number rest) e h)

pub line-fault : (bs : List ℕ) (e : LineFault) → read_line bs ≡ Err e → e ≡ Shape
line-fault bs e h = keyed-fault (key_of bs) e h

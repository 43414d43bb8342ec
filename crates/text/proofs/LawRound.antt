-- A sheet that was written and read again accounts as it did: a used reading is taken as the same thousandths, and no other is looked at.
use Rattle.std.specs.Prelude.{Ok, Result, ⊤}
use Prim.Native.Nat.{ℕ, zero, suc, ◌+◌, ◌^◌, ◌<◌}
use mathlib.Core.Path.{◌≡◌, refl, sym, ap, ◌∙◌}
use mathlib.Core.Bool.{true}
use mathlib.Core.List.{List, [], ◌∷◌}
use Rattle.std.specs.Prelude.{Some}
use native.Mathlib.Nat.{add-zero, zero-add}
use native.Mathlib.Omega.{arith}
use lib.Ieee.{Float, binary64, of_bits}
use lib.ListN.{length, get_or}
use borrow.Author.Tests.{ne_eqb}
use Rattle.little.specs.Read.{AreBytes}
use Rattle.amounts.specs.Reading.{parts_per_unit, taken_of, parts_bits}
use Rattle.amounts.specs.declared.reading.ReadingFault.{ReadingFault}
use Rattle.amounts.proofs.LawReading.{taken_most}
use Rattle.amounts.proofs.LawParts.{parts_back}
use Rattle.headers.specs.Sheet.{SheetHeader, sheet_header, line_count}
use Rattle.headers.specs.Unit.{unit_of, unit_of_sheet}
use Rattle.answers.specs.declared.answer.Refusal.{Refusal}
use Rattle.shares.specs.Share.{most_hours, most_kilowatts, most_kilowatt_hours, hours_of, kw_of, kwh_of, share_by}
use Rattle.shares.specs.declared.share.Reading.{Reading}
use Rattle.shares.specs.declared.share.Reading.TheVariants.{None as NoReading, Hours, Energy, Throughout}
use Rattle.shares.proofs.LawShare.{hours_alike, energy_alike}
use Rattle.desk.specs.Key.{key_from}
use Rattle.desk.specs.Sheet.{sheet_ok}
use Rattle.desk.specs.Line.{line_of}
use Rattle.desk.specs.Lent.{Sources, lent}
use Rattle.desk.specs.Account.{account_of, line_outcome}
use Rattle.desk.specs.Declare.{Declared}
use Rattle.desk.specs.declared.line.Line.{Line}
use Rattle.desk.proofs.LawAlike.{with_reading, account_alike, answers_alike, tables_alike, shown_alike, declared_alike}
use Rattle.text.specs.Binary.{used_readings, reading_bits, binary_sheet}
use Rattle.text.specs.Typed.{typed_sheet}
use Rattle.text.specs.Convert.{Gives}
use Rattle.text.specs.Read.{sheet_of_text}
use Rattle.text.specs.Written.{readings_of, used_of, all_taken, lines_from, lines_text, text_of_sheet}
use Rattle.text.specs.Declare.{DeclaredText}
use Rattle.text.specs.Inner.{padded, line_numbers, taken_numbers, lines_numbers, sheet_numbers}
use Rattle.text.specs.Round.{AccountsAlike, ReadAgain}
use Rattle.text.proofs.LawUsed.{taken_first}
use Rattle.text.proofs.LawBinary.{reading_said, line_said, NumbersFit, header_said, binary_header, binary_line_said, binary_right}
use Rattle.text.proofs.LawMade.{typed_fits}
use Rattle.text.proofs.LawBack.{line_given, sheet_given, lines_count, written_read}

-- ---- a reading

-- x and the binary64 of the thousandths that it is taken as are taken alike
taken_again : (most : ℕ) → most < 2 ^ 32 → (x : Float) (t : ℕ) → taken_of parts_per_unit most x ≡ Ok t
    → taken_of parts_per_unit most x ≡ taken_of parts_per_unit most (of_bits binary64 (parts_bits t))
taken_again most few x t e = e ∙ sym (parts_back most t few (taken_most parts_per_unit most t x e))

taken_last : {P : Type 0} (last : Result ℕ ReadingFault) (ts : List ℕ) → all_taken (last ∷ []) ≡ Some ts → ((t : ℕ) → last ≡ Ok t → t ∷ [] ≡ ts → P) → P
unfolding all_taken
taken_last last ts h then = taken_first last [] ts h (λ t rest is over all. let empty : [] ≡ rest = cc in then t is (rw empty all))

-- of a line that looks at its reading
module _ (line : Line) (treated : line.technique ≡ 0 → ⊥) where
  reading_again : (reading : Reading) (ts : List ℕ) → all_taken (readings_of reading) ≡ Some ts
      → (rule : ℕ) → share_by (reading_said (line_numbers (with_reading line reading) ts)) rule ≡ share_by reading rule
  unfolding line_numbers padded reading_bits used_readings
  reading_again NoReading ts h rule = refl
  reading_again Throughout ts h rule = refl
  reading_again (Hours run production) ts h rule =
      taken_first (hours_of run) _ ts h
      (λ a rest ran behind all. taken_last (hours_of production) rest behind
      (λ b produced both.
      let p = taken_again most_hours (omega arith) run a ran in
      let q = taken_again most_hours (omega arith) production b produced in
      rw (ne_eqb line.technique 0 treated, ← all, ← both) (sym (hours_alike run production _ _ p q rule))))
  reading_again (Energy e) ts h rule =
      taken_first (kwh_of e.kwh) _ ts h
      (λ a rest used behind all. taken_first (kw_of e.kw) _ rest behind
      (λ b more rated last both. taken_last (hours_of e.hours) more last
      (λ c ran three.
      let kwh = taken_again most_kilowatt_hours (omega arith) e.kwh a used in
      let kw = taken_again most_kilowatts (omega arith) e.kw b rated in
      let hours = taken_again most_hours (omega arith) e.hours c ran in
      rw (ne_eqb line.technique 0 treated, ← all, ← both, ← three) (sym (energy_alike e _ kwh kw hours rule)))))

-- ---- a line

line_again : (from : Sources) (line : Line) (ts : List ℕ) → all_taken (used_of line) ≡ Some ts
    → account_of from (with_reading line (reading_said (line_numbers line ts))) ≡ account_of from line
line_again from line ts h =
    account_alike from line (reading_said (line_numbers line ts)) line.reading
    (λ row hit treated. reading_again line treated line.reading ts (rw (ne_eqb line.technique 0 treated) at h) row.rule)

-- all else is read again as it was
line_said_lem : (s : List ℕ) (i : ℕ) (ts : List ℕ)
    → line_said (sheet_numbers s).header (line_numbers (line_of s i) ts) ≡ with_reading (line_of s i) (reading_said (line_numbers (line_of s i) ts))
unfolding sheet_numbers line_numbers padded line_of key_from
line_said_lem s i ts = refl

-- the numbers of line i + j, of n lines from line i on
line_numbers_lem : (s : List ℕ) (i n j : ℕ) → j < n
    → get_or (lines_numbers (lines_from s i n)) j [] ≡ line_numbers (line_of s (i + j)) (taken_numbers (all_taken (used_of (line_of s (i + j)))))
unfolding lines_from lines_numbers
line_numbers_lem s i zero j h = absurd (omega arith)
line_numbers_lem s i (suc n) zero h = rw (add-zero i)
line_numbers_lem s i (suc n) (suc j) h =
    let next : i + suc j ≡ suc i + j = omega arith in
    rw next (line_numbers_lem s (suc i) n j (omega arith))

-- ---- the sheet

module _ (s : List ℕ) (fits : NumbersFit (sheet_numbers s)) where
  header_again : sheet_header (binary_sheet (sheet_numbers s)) ≡ header_said (sheet_numbers s)
  header_again = binary_header (sheet_numbers s) fits

  count_again : line_count s ≡ line_count (binary_sheet (sheet_numbers s))
  unfolding sheet_numbers
  count_again = sym (ap (λ (h : SheetHeader). h.lines) header_again ∙ lines_count s 0 (line_count s))

  unit_again : unit_of_sheet s ≡ unit_of_sheet (binary_sheet (sheet_numbers s))
  unfolding sheet_numbers
  unit_again = sym (ap (λ (h : SheetHeader). unit_of h.shown_unit) header_again)

  outcome_again : (from : Sources) (i : ℕ) → i < line_count s → (ts : List ℕ) → all_taken (used_of (line_of s i)) ≡ Some ts
      → line_outcome (lent from s) i ≡ line_outcome (lent from (binary_sheet (sheet_numbers s))) i
  unfolding line_outcome sheet_numbers
  outcome_again from i h ts taken =
      let there : i < length (sheet_numbers s).lines = rw (lines_count s 0 (line_count s)) h in
      let numbers : get_or (sheet_numbers s).lines i [] ≡ line_numbers (line_of s i) ts = rw (zero-add, taken) at (line_numbers_lem s 0 (line_count s) i h) in
      let said = binary_line_said (sheet_numbers s) fits i there in
      sym (rw (said, numbers, line_said_lem s i ts) (line_again from (line_of s i) ts taken))

  module _ (right : sheet_ok s ≡ true) (taken : (i : ℕ) → i < line_count s → (ts : List ℕ) × (all_taken (used_of (line_of s i)) ≡ Some ts)) where
    each_again : (from : Sources) (i : ℕ) → i < line_count s → line_outcome (lent from s) i ≡ line_outcome (lent from (binary_sheet (sheet_numbers s))) i
    each_again from i h = let used = taken i h in outcome_again from i h used.0 used.1

    sheet_again : AccountsAlike s (binary_sheet (sheet_numbers s))
    sheet_again =
        let s' = binary_sheet (sheet_numbers s) in
        let both : sheet_ok s ≡ sheet_ok s' = right ∙ sym (binary_right (sheet_numbers s) fits) in
        record {
          answer = λ b. answers_alike b s s' both count_again (each_again b);
          exact = λ b. tables_alike b s s' both count_again (each_again b);
          shown = λ b. shown_alike b s s' both count_again (each_again b) unit_again;
          declared = λ b. declared_alike b s s' both count_again (each_again b) unit_again;
        }

-- ---- what was written

lines_taken : (s : List ℕ) (k i n : ℕ) (w : List ℕ) → lines_text k (lines_from s i n) ≡ Gives w
    → (j : ℕ) → j < n → (ts : List ℕ) × (all_taken (used_of (line_of s (i + j))) ≡ Some ts)
unfolding lines_from
lines_taken s k i zero w e j h = absurd (omega arith)
lines_taken s k i (suc n) w e zero h =
    let first = line_given k (line_of s i) (lines_from s (suc i) n) w e in
    (first.thousandths, rw (add-zero i) first.taken)
lines_taken s k i (suc n) w e (suc j) h =
    let first = line_given k (line_of s i) (lines_from s (suc i) n) w e in
    let next : i + suc j ≡ suc i + j = omega arith in
    rw next (lines_taken s (k + 1) (suc i) n first.front.rest first.front.gives j (omega arith))

module _ (s text : List ℕ) (bytes : AreBytes s) (written : text_of_sheet s ≡ Gives text) where
  numbers_again : typed_sheet text ≡ Some (sheet_numbers s)
  numbers_again = (written_read s text bytes written).1

  taken_each : (i : ℕ) → i < line_count s → (ts : List ℕ) × (all_taken (used_of (line_of s i)) ≡ Some ts)
  taken_each i h =
      let given = sheet_given s text written in
      rw zero-add at (lines_taken s 0 0 (line_count s) given.front.rest given.front.gives i h)

  pub made_again : sheet_of_text text ≡ Gives (binary_sheet (sheet_numbers s))
  unfolding sheet_of_text
  made_again = rw numbers_again

  pub read_again : ReadAgain s text
  read_again =
      record {
        sheet = binary_sheet (sheet_numbers s);
        gives = made_again;
        alike = sheet_again s (typed_fits text (sheet_numbers s) numbers_again) (sheet_given s text written).right taken_each;
      }

  -- so the desk answers and leaves for the text what it does for the sheet
  pub declared_again : (from : Sources) (exact shown : List ℕ) (r : Result ⊤ Refusal) (exact' shown' : List ℕ) → Declared (lent from s) exact shown r exact' shown'
      → DeclaredText from text exact shown r exact' shown'
  declared_again from exact shown r exact' shown' promised =
      rw read_again.gives (read_again.alike.declared from exact shown r exact' shown' promised)

-- What a conversion answers and leaves: the bytes that were made of the one form, put into lent bytes as the other; or one refusal.
use Rattle.std.specs.Prelude.{Err, Ok, Result}
use Rattle.std.specs.Prelude.{ℕ, ◌≡◌, cond, List, ◌++◌, leb, length, drop, replicate}
use Rattle.answers.specs.Answer.{code_of}
use Rattle.answers.specs.declared.answer.FileFault.TheVariants.{ResultTooShort}
use Rattle.answers.specs.declared.answer.Refusal.{Refusal}
use Rattle.answers.specs.declared.answer.Refusal.TheVariants.{File}
use Rattle.answers.specs.declared.answer.Refusal.{Refusal}

-- what is made of a file, whatever room there is
pub data Made : Type 0 where
  Gives : List ℕ → Made
  Refuses : Refusal → Made

-- room is looked at last (3)
abbrev pub by_room : (made : Made) (room : ℕ) → Result ℕ Refusal
by_room (Gives bytes) room = cond (leb (length bytes) room) (Ok (length bytes)) (Err (File ResultTooShort))
by_room (Refuses refusal) room = Err refusal

-- the bytes, and past them what was there
abbrev pub given : (made : Made) (bytes : List ℕ) → List ℕ
given (Gives made) bytes = made ++ drop (length made) bytes
given (Refuses refusal) bytes = bytes

-- a refusal zeroes all that is lent
abbrev pub bytes_after : (r : Result ℕ Refusal) (made : Made) (bytes : List ℕ) → List ℕ
bytes_after (Ok n) made bytes = given made bytes
bytes_after (Err refusal) made bytes = replicate (length bytes) 0

pub record Converts (made : Made) (bytes : List ℕ) (r : Result ℕ Refusal) (bytes' : List ℕ) : Type 0 where
  pub answer : r ≡ by_room made (length bytes)
  pub holds : bytes' ≡ bytes_after r made bytes

-- the answer as one number: how many bytes, below 65,536; or the refusal's number times 65,536, and its line
abbrev pub converted_code : Result ℕ Refusal → ℕ
converted_code (Ok n) = n
converted_code (Err refusal) = code_of (Err refusal)

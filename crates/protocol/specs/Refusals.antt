-- 01, "The shape of each place": "Where an answer is an enum, a definition sets out this paper's number and values for each
-- of its cases". What the code answers, in the numbers of "Answer numbers".
use Rattle.std.specs.Prelude.{ℕ, Result, Ok, Err}
use Rattle.protocol.specs.Setup.{Started}
use Rattle.protocol.specs.Answer.{Stepped}
use Rattle.protocol.specs.Run.{Ran}
use Rattle.protocol.specs.declared.Refusal.{Refusal}
use Rattle.protocol.specs.declared.Refusal.TheVariants.{OutOfRange, NoAction, NoSite, NoTransaction, IllFilled, WrongHome, WrongStatus, WrongMissing, NoMessage, LockClash, NoScan, WrongSites, WrongCount, NoHome, EqualPriorities, TooManyEvents, NoRoom}
use Rattle.protocol.specs.declared.Answered.{Answered}

-- the number of each refusal in the table
abbrev pub number_of : Refusal → ℕ
number_of OutOfRange = 1
number_of NoAction = 2
number_of NoSite = 3
number_of NoTransaction = 4
number_of IllFilled = 5
number_of WrongHome = 6
number_of WrongStatus = 7
number_of WrongMissing = 8
number_of NoMessage = 9
number_of LockClash = 10
number_of NoScan = 11
number_of WrongSites = 21
number_of WrongCount = 22
number_of NoHome = 23
number_of EqualPriorities = 25
number_of TooManyEvents = 31
number_of NoRoom = 32

-- "0 is done"
abbrev pub answer_of : {A : Type 0} → Result A Refusal → ℕ
answer_of (Ok x) = 0
answer_of (Err r) = number_of r

-- how many messages were sent: "a refused event adding 0"
abbrev pub sent_of : Result ℕ Refusal → ℕ
sent_of (Ok n) = n
sent_of (Err r) = 0

-- what a setup, an event and a run return, in these numbers
abbrev pub started : Answered (Unit {0}) → Started
started a = record { answer = answer_of a.outcome; state = a.state }

abbrev pub stepped : Answered ℕ → Stepped
stepped a = record { answer = answer_of a.outcome; sent = sent_of a.outcome; state = a.state }

abbrev pub ran : Answered ℕ → Ran
ran a = record { answer = answer_of a.outcome; sent = sent_of a.outcome; state = a.state }

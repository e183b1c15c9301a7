-- What `apfs_wrong_words` gives: proof of what specs/WrongWords.antt says.
use Prim.Native.Nat.{ℕ}
use mathlib.Core.Path.{refl}
use mathlib.Core.List.{List}
use Rattle.error.proofs.Laws.{le_cases}
use Rattle.calls.specs.Filled.{Filled}
use Rattle.wrong_word.specs.Mends.{mends_of, mends_in}
use Rattle.wrong_word.proofs.Complete.{complete}
use Rattle.results.specs.Call.{number}
use Rattle.apfs.specs.WrongWords.{Exactly, GivesWords, written, too_short, ApfsWrongWords}

exactly : (object : List ℕ) → Exactly object (mends_of object)
exactly object = record { all = complete.all object; only = complete.only object; rising = complete.rising object }

pub apfs_wrong_words : ApfsWrongWords
unfolding mends_in
apfs_wrong_words object out =
    le_cases (λ (f : Filled). GivesWords object out (number f.answer) f.buffer)
    (λ h. written (mends_of object) (exactly object) h refl refl) (λ h. too_short (mends_of object) (exactly object) h (refl, refl))

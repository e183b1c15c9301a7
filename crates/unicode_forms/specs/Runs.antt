-- The marks at the head of a list, class by class, and what stands behind them.
use Rattle.std.specs.Prelude.{ℕ, List, [], ◌∷◌}
use Rattle.error.specs.Answer.{if_eq}
use Rattle.unicode_forms.specs.Data.{class_of}

-- those of a class, up to the first starter
unfoldable pub marks : ℕ → List ℕ → List ℕ
marks k [] = []
marks k (c ∷ cs) = if_eq (class_of c) 0 [] (if_eq (class_of c) k (c ∷ marks k cs) (marks k cs))

-- the first starter and what follows it
unfoldable pub after_marks : List ℕ → List ℕ
after_marks [] = []
after_marks (c ∷ cs) = if_eq (class_of c) 0 (c ∷ cs) (after_marks cs)

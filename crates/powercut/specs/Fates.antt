-- What became of bytes, in words.
use Rattle.std.specs.Prelude.{ℕ, List, codes}
use Rattle.powercut.specs.declared.trial.Fate.{Fate}
use Rattle.powercut.specs.declared.trial.Fate.TheVariants.{Survived, Lost}

abbrev pub fate_text : Fate → List ℕ
fate_text Survived = codes "survived"
fate_text Lost = codes "were lost"

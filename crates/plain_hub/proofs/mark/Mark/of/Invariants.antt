use Rattle.plain_hub.specs.Base.{told}
use Rattle.plain_hub.proofs.mark.Mark.of.Given as goal

-- the base is what this image tells
abbrev pub ghosts-named : goal.ghosts-named
ghosts-named g a = record { base = told (g.I.Image.size a.image.now) (g.I.Image.content a.image.now) }

-- A file's calls as the list behind demand 3: "A file gives the list of its whole TM and ST records up to where reading ends."
-- Its listing is the lines of that list's history, so the theorem speaks of what is printed.
-- Assumes nothing.
use mathlib.Core.List.{List, [], ◌∷◌}
use Rattle.exchange.specs.declared.call.Call.{Call}

-- calls in the order of the file, put in front of earlier ones: the newest first
abbrev pub onto : List Call → List Call → List Call
onto [] earlier = earlier
onto (c ∷ cs) earlier = onto cs (c ∷ earlier)

abbrev pub newest_first : List Call → List Call
newest_first cs = onto cs []

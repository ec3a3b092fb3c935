-- What putting an entry into a channel's arrays comes to, where they have a place for it and where they don't.
use Rattle.std.specs.Prelude.{ℕ, cond, List, [], ◌∷◌, ◌++◌, length, nat_lt}
use Rattle.model.specs.declared.Entry.{Entry}
use Rattle.model.specs.Channel.{array_places, entry_of}

-- what place n reads as once a kind and a body were put there: these, or what every place past the arrays reads as
unfoldable pub placed : ℕ → ℕ → ℕ → Entry
placed n kind body = cond (nat_lt n array_places) (entry_of kind body) (entry_of 0 0)

-- entries with one more after them, if a channel's arrays have a place for it; as they are if not
unfoldable pub pushed : List Entry → Entry → List Entry
pushed es e = cond (nat_lt (length es) array_places) (es ++ (e ∷ [])) es

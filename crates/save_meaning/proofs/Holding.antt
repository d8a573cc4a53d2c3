-- What holds of a result, part by part.
use Rattle.std.proofs.Common.{◌≡◌, refl}
use Rattle.save_meaning.specs.Results.{Stop, Res, Gives, Stops, bind, leaves_as, leaving, Holds}

-- of a sequence: what holds behind its first part holds of the rest
pub bound : {S E A B : Type 0} (ok : B → S → Type 0) (end : Stop E → S → Type 0) (res : Res S E A) (go : A → S → Res S E B) →
    Holds ok end (bind res go) → Holds (λ a s. Holds ok end (go a s)) end res
bound ok end (Gives a s) go h = h
bound ok end (Stops why s) go h = h

pub binds : {S E A B : Type 0} (ok : B → S → Type 0) (end : Stop E → S → Type 0) (res : Res S E A) (go : A → S → Res S E B) →
    Holds (λ a s. Holds ok end (go a s)) end res → Holds ok end (bind res go)
binds ok end (Gives a s) go h = h
binds ok end (Stops why s) go h = h

-- what holds of the value may be weaker
pub weaken : {S E A : Type 0} (ok good : A → S → Type 0) (end : Stop E → S → Type 0) (res : Res S E A) → ((a : A) (s : S) → ok a s → good a s) →
    Holds ok end res → Holds good end res
weaken ok good end (Gives a s) f h = f a s h
weaken ok good end (Stops why s) f h = h

-- and what holds of the stop
pub weaken_end : {S E A : Type 0} (ok : A → S → Type 0) (end last : Stop E → S → Type 0) (res : Res S E A) → ((why : Stop E) (s : S) → end why s → last why s) →
    Holds ok end res → Holds ok last res
weaken_end ok end last (Gives a s) f h = h
weaken_end ok end last (Stops why s) f h = f why s h

-- what is left as something else
pub left_as : {S E F A : Type 0} (ok : A → S → Type 0) (end : Stop F → S → Type 0) (f : E → F) (res : Res S E A) →
    Holds ok end (leaving f res) → Holds ok (λ why s. end (leaves_as f why) s) res
left_as ok end f (Gives a s) h = h
left_as ok end f (Stops why s) h = h

-- a sequence whose parts leave as something else
pub leaving_bind : {S E F A B : Type 0} (f : E → F) (res : Res S E A) (go : A → S → Res S E B) →
    leaving f (bind res go) ≡ bind (leaving f res) (λ a s. leaving f (go a s))
leaving_bind f (Gives a s) go = refl
leaving_bind f (Stops why s) go = refl

-- a sequence of three parts
pub bind_bind : {S E A B C : Type 0} (res : Res S E A) (f : A → S → Res S E B) (g : B → S → Res S E C) →
    bind (bind res f) g ≡ bind res (λ a s. bind (f a s) g)
bind_bind (Gives a s) f g = refl
bind_bind (Stops why s) f g = refl

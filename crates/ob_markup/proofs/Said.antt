-- What attributes say by the grammar and by the productions is one.
use Rattle.std.proofs.Common.{ℕ, Bool, true, false, List, [], ◌∷◌, Option}
use Rattle.std.specs.Prelude.{codes}
use Rattle.ob_object.specs.declared.kind.Kind.{Kind}
use Rattle.ob_object.specs.declared.head.Head.{Head}
use Rattle.ob_encoding.specs.Kinds.{same}
use Rattle.ob_documents.specs.Attributes.{Tells, Tell}
use Rattle.ob_documents.specs.Attributes as grammar
use Rattle.ob_markup.specs.Documents.{AttributesSay, NamespaceBy, NamespaceIs}
use Rattle.ob_markup.proofs.Values.{value_stands, value_expands}

pub tell_say : (k : Kind) (attributes : List (List ℕ × List ℕ)) (before after : Head) → Tell k attributes before after → AttributesSay k attributes before after
tell_say k [] before after t = t
tell_say k (a ∷ attributes) before after t = (t.0, (t.1.0, value_stands a.1 t.1.0 t.1.1, t.1.2), tell_say k attributes t.0 after t.2)

pub say_tell : (k : Kind) (attributes : List (List ℕ × List ℕ)) (before after : Head) → AttributesSay k attributes before after → Tell k attributes before after
say_tell k [] before after t = t
say_tell k (a ∷ attributes) before after t = (t.0, (t.1.0, value_expands a.1 t.1.0 t.1.1, t.1.2), say_tell k attributes t.0 after t.2)

named_stands : (t : Bool) (raw : List ℕ) (ns : Option (List ℕ)) (A B : Type 0) → (A → B) → grammar.NamespaceBy t raw ns A → NamespaceBy t raw ns B
named_stands true raw ns A B f h = (h.0, value_stands raw h.0 h.1, h.2)
named_stands false raw ns A B f h = f h

stands_named : (t : Bool) (raw : List ℕ) (ns : Option (List ℕ)) (A B : Type 0) → (A → B) → NamespaceBy t raw ns A → grammar.NamespaceBy t raw ns B
stands_named true raw ns A B f h = (h.0, value_expands raw h.0 h.1, h.2)
stands_named false raw ns A B f h = f h

pub namespace_stands : (attributes : List (List ℕ × List ℕ)) (ns : Option (List ℕ)) → grammar.NamespaceIs attributes ns → NamespaceIs attributes ns
namespace_stands [] ns h = h
namespace_stands (a ∷ attributes) ns h = named_stands (same a.0 (codes "xmlns")) a.1 ns (grammar.NamespaceIs attributes ns) (NamespaceIs attributes ns) (namespace_stands attributes ns) h

pub stands_namespace : (attributes : List (List ℕ × List ℕ)) (ns : Option (List ℕ)) → NamespaceIs attributes ns → grammar.NamespaceIs attributes ns
stands_namespace [] ns h = h
stands_namespace (a ∷ attributes) ns h = stands_named (same a.0 (codes "xmlns")) a.1 ns (NamespaceIs attributes ns) (grammar.NamespaceIs attributes ns) (stands_namespace attributes ns) h

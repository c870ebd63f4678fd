-- What the workers of a hall hand to one another may go to other threads, and the machine may be
-- read in several at once.
use mathlib.Core.List.{◌∷◌, []}
use denote.Builtin.{u8, u32}
use denote.Ref.{NamedLft}
use denote.RattleType.{RattleType}
use denote.Struct.Tuple.{Tuple}
use denote.Param.Send.{IsSend, IsSync, sendable, view_send, view_sync}
use denote.Param.SendFields.{as_row_send, as_row_sync, declared_send, declared_sync, variants_send, variants_sync}
use Rattle.indexmap.proofs.map.IndexMap.TheSendSync as index_map
use Rattle.std.proofs.Crossing as std_crossing
use Rattle.std.specs.contracts.option.Option as option
use Rattle.fort_base.proofs.boxed.Boxed.TheSendSync as boxed
use Rattle.fort_base.proofs.ids.Loc.TheSendSync as loc
use Rattle.fort_base.proofs.list.List.TheSendSync as list
use Rattle.fort_base.proofs.shared.Shared.TheSendSync as shared
use Rattle.fort_base.proofs.table.TypeTable.TheSendSync as table
use Rattle.fort_base.proofs.ty.Ty.TheLaws.TheKnot as types
use Rattle.fort_base.specs.contracts.ids.Loc.{the_row as a_loc}
use Rattle.fort_base.specs.contracts.ids.TypeId.{the_field as a_type}
use Rattle.fort_base.specs.contracts.list.List.{the_row as list_of}
use Rattle.fort_base.specs.contracts.shared.Shared.{the_row as shared_of, the_field as a_shared}
use Rattle.fort_base.specs.contracts.ty.Ty.{the_row as ty, the_field as a_ty}
use Rattle.fort_core.proofs.Crossing.{term_send, term_sync, terms_send, terms_sync, value_send, value_sync, values_send, values_sync}
use Rattle.fort_core.proofs.path.Path.TheSendSync as path
use Rattle.fort_core.proofs.pick.Pick.TheLaws.TheKnot as pick_knot
use Rattle.fort_core.proofs.primitive.Primitive.TheSendSync as primitive
use Rattle.fort_core.proofs.program.BuiltIn.TheSendSync as built_in
use Rattle.fort_core.proofs.program.CoreSet.TheSendSync as set
use Rattle.fort_core.specs.contracts.pick.Pick as pick
use Rattle.fort_core.specs.contracts.program.CoreBody as body
use Rattle.fort_core.specs.contracts.program.CoreDecl as decl
use Rattle.fort_core.specs.contracts.program.CoreField as field
use Rattle.fort_core.specs.contracts.program.CoreShape as shape
use Rattle.fort_core.specs.contracts.program.Program as program
use Rattle.fort_core.specs.contracts.term.Term as term
use Rattle.fort_core.specs.contracts.value.Value as value
use Rattle.fort_disp.specs.contracts.rows.Tables as tables
use Rattle.fort_store_effects.specs.contracts.cell.Cell as cell
use Rattle.fort_store_effects.specs.contracts.layer.Layer as layer
use Rattle.fort_store_effects.specs.contracts.layers.Layers as layers
use Rattle.fort_store.proofs.tree.Tree.TheLaws.TheKnot as trees
use Rattle.fort_store.specs.contracts.store.Store as store
use Rattle.fort_store.specs.contracts.tree.Tree as tree
use Rattle.fort_frames.proofs.stack.Stack.TheLaws.TheKnot as stacks
use Rattle.fort_frames.specs.contracts.frame.Frame as frame
use Rattle.fort_frames.specs.contracts.node.Node as node
use Rattle.fort_frames.specs.contracts.place.Place as place
use Rattle.fort_frames.specs.contracts.stack.Stack as stack
use Rattle.fort_hall_books.specs.contracts.book.Book as book
use Rattle.fort_hall_books.specs.contracts.book.Entry as entry
use Rattle.fort_hall_books.specs.contracts.leg.Kind as kind
use Rattle.fort_hall_books.specs.contracts.leg.Leg as leg
use Rattle.fort_hall_forms.specs.contracts.form.AtForm as at_form
use Rattle.fort_hall_program.proofs.tasks.Tasks.TheSendSync as tasks
use Rattle.fort_hall_program.specs.contracts.book.TaskBook as task_book
use Rattle.fort_hall_program.specs.contracts.machine.TermMachine as machine
use Rattle.fort_hall_program.specs.contracts.machine.TermMachine.TheInside as inside
use Rattle.fort_hall_program.specs.contracts.state.State as state
use Rattle.fort_hall_program.specs.contracts.state.TaskLeg as task_leg
use Rattle.fort_hall_program.specs.contracts.state.Waste as waste
use Rattle.fort_hall_program.specs.declared.machine.Naming

-- ---- numbers, types, terms

type_sync : IsSync a_type.row
type_sync = search sendable depth 9

ty_field_sync : IsSync a_ty.row
ty_field_sync = types.sync-Ty type_sync list.the_sync boxed.the_sync

ty_sync : IsSync ty
ty_sync = as_row_sync a_ty ty_field_sync

shared_term_send : IsSend (shared_of term.the_row)
shared_term_send = search (sendable, shared.the_send, term_send, term_sync) depth 9

shared_term_sync : IsSync (shared_of term.the_row)
shared_term_sync = search (sendable, shared.the_sync, term_send, term_sync) depth 9

shared_term_field_sync : IsSync (a_shared term.the_row).row
shared_term_field_sync = search (sendable, shared.the_sync, term_send, term_sync) depth 9

-- ---- the parts of a program

field_sync : IsSync field.the_row
field_sync = search (sendable, ty_field_sync, value_sync) depth 20

shape_sync : IsSync shape.the_row
shape_sync = search (sendable, list.the_sync, field_sync) depth 20

body_sync : IsSync body.the_row
body_sync = search (sendable, shared_term_field_sync, primitive.the_field_sync, type_sync) depth 20

decl_sync : IsSync decl.the_row
decl_sync = declared_sync decl.the_type (list.the_sync _ ty_sync, (ty_sync, (body_sync, tt)))

text_send : IsSend (list_of u8)
text_send = search (sendable, list.the_send)

text_sync : IsSync (list_of u8)
text_sync = search (sendable, list.the_sync)

pair_sync : (A B : RattleType) → IsSync A → IsSync B → IsSync (Tuple (A ∷ B ∷ []))
pair_sync A B a b = search sendable depth 9

pair_send : (A B : RattleType) → IsSend A → IsSend B → IsSend (Tuple (A ∷ B ∷ []))
pair_send A B a b = search sendable depth 9

program_sync : IsSync program.the_row
program_sync =
    declared_sync program.the_type (
      table.the_sync,
      (
        built_in.the_sync,
        (
          list.the_sync _ text_sync,
          (
            list.the_sync _ shape_sync,
            (
              list.the_sync _ set.the_sync,
              (
                list.the_sync _ decl_sync,
                (
                  shared_term_sync,
                  (
                    list.the_sync _
                        (pair_sync _ _ loc.the_sync (as_row_sync value.the_field value_sync)),
                    (
                      list.the_sync _ (pair_sync _ _ loc.the_sync ty_sync),
                      tt,
                    ),
                  ),
                ),
              ),
            ),
          ),
        ),
      ),
    )

-- ---- picks

pick_field_send : IsSend pick.the_field.row
pick_field_send = pick_knot.send-Pick path.the_field_send loc.the_field_send list.the_send

pick_send : IsSend pick.the_row
pick_send = as_row_send pick.the_field pick_field_send

picks_send : IsSend (list_of pick.the_row)
picks_send = list.the_send _ pick_send

-- ---- layers

option_sync : (A : RattleType) → IsSync A → IsSync (option.the_row A)
option_sync A a = search sendable depth 9

cell_send : IsSend cell.the_row
cell_send = search (sendable, value_send) depth 20

cell_sync : IsSync cell.the_row
cell_sync = search (sendable, value_sync) depth 20

option_send : (A : RattleType) → IsSend A → IsSend (option.the_row A)
option_send A a = search sendable depth 9

value_row_send : IsSend value.the_row
value_row_send = as_row_send value.the_field value_send

value_row_sync : IsSync value.the_row
value_row_sync = as_row_sync value.the_field value_sync

-- A tree's values and branches, each of which stands in a row.
tree_sync : IsSync tree.the_field.row
tree_sync =
    trees.both_sync-Tree
    (std_crossing.Vec-send _ (option_send _ value_row_send))
    (std_crossing.Vec-sync _ (option_sync _ value_row_sync))
    (λ h s y. std_crossing.Vec-send _ (option_send _ (shared.the_send h s y)))
    (λ h s y. std_crossing.Vec-sync _ (option_sync _ (shared.the_sync h s y)))

tree_send : IsSend tree.the_field.row
tree_send =
    trees.both_send-Tree
    (std_crossing.Vec-send _ (option_send _ value_row_send))
    (std_crossing.Vec-sync _ (option_sync _ value_row_sync))
    (λ h s y. std_crossing.Vec-send _ (option_send _ (shared.the_send h s y)))
    (λ h s y. std_crossing.Vec-sync _ (option_sync _ (shared.the_sync h s y)))

store_sync : IsSync store.the_row
store_sync =
    declared_sync store.the_type (
      search (sendable, index_map.the_sync, std_crossing.crosses, value_sync) depth 9,
      (
        std_crossing.Vec-sync _
            (option_sync _ (shared.the_sync _ (as_row_send tree.the_field tree_send)
            (as_row_sync tree.the_field tree_sync))),
        tt,
      ),
    )

layer_send : IsSend layer.the_row
layer_send =
    declared_send layer.the_type (
      search (sendable, index_map.the_send, std_crossing.crosses, cell_send) depth 9,
      (
        text_send,
        (
          search sendable,
          tt,
        ),
      ),
    )

layer_sync : IsSync layer.the_row
layer_sync =
    declared_sync layer.the_type (
      search (sendable, index_map.the_sync, std_crossing.crosses, cell_sync) depth 9,
      (
        text_sync,
        (
          search sendable,
          tt,
        ),
      ),
    )

layers_sync : IsSync layers.the_row
layers_sync =
    declared_sync layers.the_type (
      store_sync,
      (
        text_sync,
        (
          search sendable,
          (
            option_sync _ layer_sync,
            (
              list.the_sync _ layer_sync,
              tt,
            ),
          ),
        ),
      ),
    )

store_send : IsSend store.the_row
store_send =
    declared_send store.the_type (
      search (sendable, index_map.the_send, std_crossing.crosses, value_send) depth 9,
      (
        std_crossing.Vec-send _
            (option_send _ (shared.the_send _ (as_row_send tree.the_field tree_send)
            (as_row_sync tree.the_field tree_sync))),
        tt,
      ),
    )

layers_send : IsSend layers.the_row
layers_send =
    declared_send layers.the_type (
      store_send,
      (
        text_send,
        (
          search sendable,
          (
            option_send _ layer_send,
            (
              list.the_send _ layer_send,
              tt,
            ),
          ),
        ),
      ),
    )

shared_layers_send : IsSend (shared_of layers.the_row)
shared_layers_send = shared.the_send _ layers_send layers_sync

shared_layers_sync : IsSync (shared_of layers.the_row)
shared_layers_sync = shared.the_sync _ layers_send layers_sync

tables_sync : (a : NamedLft) → IsSync (tables.the_row a)
tables_sync a =
    declared_sync (tables.the_type a) (
      search (sendable, program_sync) depth 9,
      (
        search (sendable, list.the_sync) depth 9,
        tt,
      ),
    )

-- ---- books with their tasks

entry_send : IsSend entry.the_row
entry_send = declared_send entry.the_type (search sendable, (picks_send, tt))

book_send : IsSend book.the_row
book_send =
    declared_send book.the_type (
      search sendable,
      (
        shared_layers_send,
        (
          shared_term_send,
          (
            search sendable,
            (
              layer_send,
              (
                list.the_send _ entry_send,
                (
                  shared_term_send,
                  tt,
                ),
              ),
            ),
          ),
        ),
      ),
    )

pub task_book_send : IsSend task_book.the_row
task_book_send =
    declared_send task_book.the_type
    (book_send, (option_send _ layers_send, (tasks.the_send, (search sendable, tt))))

-- ---- legs

marks_send : IsSend (option.the_row (list_of (Tuple (a_loc ∷ value.the_row ∷ []))))
marks_send = option_send _ (list.the_send _ (pair_send _ _ loc.the_send value_row_send))

kind_send : IsSend kind.the_row
kind_send = search (sendable, list.the_send, loc.the_field_send, value_send) depth 20

leg_send : IsSend leg.the_row
leg_send =
    declared_send leg.the_type (
      search sendable,
      (
        path.the_send,
        (
          shared_term_send,
          (
            kind_send,
            (
              layer_send,
              (
                picks_send,
                (
                  shared_term_send,
                  tt,
                ),
              ),
            ),
          ),
        ),
      ),
    )

pub task_leg_send : IsSend task_leg.the_row
task_leg_send = declared_send task_leg.the_type (search sendable, (leg_send, tt))

pub waste_send : IsSend waste.the_row
waste_send = variants_send waste.enum ((shared_term_send, tt), ((leg_send, tt), tt))

-- ---- places

ty_field_send : IsSend a_ty.row
ty_field_send = types.send-Ty (search sendable depth 9) list.the_send boxed.the_send

ty_send : IsSend ty
ty_send = as_row_send a_ty ty_field_send

shared_ty_send : IsSend (shared_of ty)
shared_ty_send = shared.the_send ty ty_send ty_sync

shared_ty_sync : IsSync (shared_of ty)
shared_ty_sync = shared.the_sync ty ty_send ty_sync

variables_send : IsSend (list_of (Tuple (u32 ∷ ty ∷ [])))
variables_send = list.the_send _ (pair_send u32 ty (search sendable) ty_send)

variables_sync : IsSync (list_of (Tuple (u32 ∷ ty ∷ [])))
variables_sync = list.the_sync _ (pair_sync u32 ty (search sendable) ty_sync)

shared_variables_send : IsSend (shared_of (list_of (Tuple (u32 ∷ ty ∷ []))))
shared_variables_send = shared.the_send _ variables_send variables_sync

shared_variables_sync : IsSync (shared_of (list_of (Tuple (u32 ∷ ty ∷ []))))
shared_variables_sync = shared.the_sync _ variables_send variables_sync

clauses_send : IsSend (list_of (Tuple (shared_of term.the_row ∷ shared_of ty ∷ [])))
clauses_send = list.the_send _ (pair_send _ _ shared_term_send shared_ty_send)

clauses_sync : IsSync (list_of (Tuple (shared_of term.the_row ∷ shared_of ty ∷ [])))
clauses_sync = list.the_sync _ (pair_sync _ _ shared_term_sync shared_ty_sync)

node_send : IsSend node.the_row
node_send = search (sendable, terms_send) depth 20

node_sync : IsSync node.the_row
node_sync = search (sendable, terms_sync) depth 20

frame_send : IsSend frame.the_row
frame_send =
    variants_send frame.enum (
      (node_send, tt),
      (
        tt,
        (
          (search sendable depth 9, (values_send, (terms_send, tt))),
          (
            (shared_ty_send, (shared_term_send, tt)),
            (
              (shared_ty_send, (value_row_send, tt)),
              (
                (shared_variables_send, (shared_term_send, tt)),
                (
                  (search sendable depth 9, (shared_ty_send, (shared_term_send, tt))),
                  (
                    (search sendable depth 9, tt),
                    (
                      (search sendable depth 9, tt),
                      (
                        (search sendable depth 9, (shared_term_send, tt)),
                        (
                          (value_row_send, (search sendable depth 9, tt)),
                          (
                            (shared_term_send, tt),
                            (
                              (value_row_send, tt),
                              (
                                (shared_term_send, (shared_term_send, tt)),
                                (
                                  (value_row_send, (shared_term_send, tt)),
                                  (
                                    (value_row_send, (value_row_send, tt)),
                                    (
                                      tt,
                                      (
                                        (shared_term_send, tt),
                                        (
                                          (shared_term_send, (shared_term_send, tt)),
                                          (
                                            (search sendable depth 9, (clauses_send, (shared_term_send, tt))),
                                            (
                                              (search sendable depth 9, (search sendable depth 9, (search sendable depth 9, (shared_term_send, tt)))),
                                              (
                                                (search sendable depth 9, (search sendable depth 9, (search sendable depth 9, (shared_term_send, (search sendable depth 9, (shared_term_send, tt)))))),
                                                (
                                                  (search sendable depth 9, (clauses_send, (option_send _ shared_term_send, tt))),
                                                  tt,
                                                ),
                                              ),
                                            ),
                                          ),
                                        ),
                                      ),
                                    ),
                                  ),
                                ),
                              ),
                            ),
                          ),
                        ),
                      ),
                    ),
                  ),
                ),
              ),
            ),
          ),
        ),
      ),
    )

frame_sync : IsSync frame.the_row
frame_sync =
    variants_sync frame.enum (
      (node_sync, tt),
      (
        tt,
        (
          (search sendable depth 9, (values_sync, (terms_sync, tt))),
          (
            (shared_ty_sync, (shared_term_sync, tt)),
            (
              (shared_ty_sync, (value_row_sync, tt)),
              (
                (shared_variables_sync, (shared_term_sync, tt)),
                (
                  (search sendable depth 9, (shared_ty_sync, (shared_term_sync, tt))),
                  (
                    (search sendable depth 9, tt),
                    (
                      (search sendable depth 9, tt),
                      (
                        (search sendable depth 9, (shared_term_sync, tt)),
                        (
                          (value_row_sync, (search sendable depth 9, tt)),
                          (
                            (shared_term_sync, tt),
                            (
                              (value_row_sync, tt),
                              (
                                (shared_term_sync, (shared_term_sync, tt)),
                                (
                                  (value_row_sync, (shared_term_sync, tt)),
                                  (
                                    (value_row_sync, (value_row_sync, tt)),
                                    (
                                      tt,
                                      (
                                        (shared_term_sync, tt),
                                        (
                                          (shared_term_sync, (shared_term_sync, tt)),
                                          (
                                            (search sendable depth 9, (clauses_sync, (shared_term_sync, tt))),
                                            (
                                              (search sendable depth 9, (search sendable depth 9, (search sendable depth 9, (shared_term_sync, tt)))),
                                              (
                                                (search sendable depth 9, (search sendable depth 9, (search sendable depth 9, (shared_term_sync, (search sendable depth 9, (shared_term_sync, tt)))))),
                                                (
                                                  (search sendable depth 9, (clauses_sync, (option_sync _ shared_term_sync, tt))),
                                                  tt,
                                                ),
                                              ),
                                            ),
                                          ),
                                        ),
                                      ),
                                    ),
                                  ),
                                ),
                              ),
                            ),
                          ),
                        ),
                      ),
                    ),
                  ),
                ),
              ),
            ),
          ),
        ),
      ),
    )

-- A stack's one part is shared: a frame, and the stack below it.
stack_send : IsSend stack.the_field.row
stack_send =
    stacks.both_send-Stack
    (λ h s y. shared.the_send _ (pair_send _ h frame_send s) (pair_sync _ h frame_sync y))
    (λ h s y. shared.the_sync _ (pair_send _ h frame_send s) (pair_sync _ h frame_sync y))

place_send : IsSend place.the_row
place_send =
    declared_send place.the_type (as_row_send stack.the_field stack_send, (path.the_send, tt))

at_form_send : IsSend at_form.the_row
at_form_send =
    declared_send at_form.the_type (
      place_send,
      (
        shared_term_send,
        (
          search sendable depth 9,
          (
            shared_term_send,
            (
              marks_send,
              tt,
            ),
          ),
        ),
      ),
    )

pub state_send : IsSend state.the_row
state_send =
    declared_send state.the_type (
      search sendable,
      (
        search sendable,
        (
          path.the_send,
          (
            shared_term_send,
            (
              shared_layers_send,
              (
                search sendable,
                (
                  search sendable,
                  (
                    search sendable,
                    (
                      option_send _ at_form_send,
                      tt,
                    ),
                  ),
                ),
              ),
            ),
          ),
        ),
      ),
    )

-- ---- the machine

pub machine_send : (a : NamedLft) (J G : RattleType) (n : Naming.Ghosts J.Denot) → IsSync G
    → IsSend (machine.the_row a J G n)
machine_send a J G n g =
    view_send _ _ _ _ _ (declared_send (inside.the_type a J G n) (
      search (sendable, std_crossing.send) depth 9,
      (
        search (sendable, tables_sync) depth 9,
        (
          search (sendable, g) depth 9,
          (
            search sendable,
            (
              shared_layers_send,
              (
                shared_term_send,
                (
                  search sendable,
                  (
                    search sendable,
                    (
                      search sendable,
                      tt,
                    ),
                  ),
                ),
              ),
            ),
          ),
        ),
      ),
    ))

pub machine_sync : (a : NamedLft) (J G : RattleType) (n : Naming.Ghosts J.Denot) → IsSync G
    → IsSync (machine.the_row a J G n)
machine_sync a J G n g =
    view_sync _ _ _ _ _ (declared_sync (inside.the_type a J G n) (
      search (sendable, std_crossing.crosses) depth 9,
      (
        search (sendable, tables_sync) depth 9,
        (
          search (sendable, g) depth 9,
          (
            search sendable,
            (
              shared_layers_sync,
              (
                shared_term_sync,
                (
                  search sendable,
                  (
                    search sendable,
                    (
                      search sendable,
                      tt,
                    ),
                  ),
                ),
              ),
            ),
          ),
        ),
      ),
    ))

mod OneStepMore
mod OneStepMoreTrees
mod Entered
mod Examples
